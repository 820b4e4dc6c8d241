-- An expectation as a line: who asks, what, for whom, when it is let through, and where it goes then, in the words of rules.
use Rattle.std.specs.Prelude.{◌≡◌, ◌⊎◌, ℕ, Bool, true, ◌||◌, ◌==◌, if◌then◌else◌, List, [], ◌∷◌, ◌++◌, codes, Option, Some, None, Result, Ok, Err}
use Rattle.std.specs.List.{list_any}
use Rattle.std.specs.Str.{byte, bytes_eq}
use Rattle.sip_text.specs.Cuts.{behind_word, word_at}
use Rattle.sip_hops.specs.declared.hop.Hop.{Hop as ConfiguredHop}
use Rattle.sip_policy.specs.declared.operation.Operation.{Operation}
use Rattle.sip_policy.specs.declared.operation.OperationPattern.{OperationPattern}
use Rattle.sip_policy.specs.declared.operation.OperationPattern.TheVariants as Pattern
use Rattle.sip_policy.specs.declared.rule_verdict.RuleVerdict.{RuleVerdict}
use Rattle.sip_policy.specs.declared.target_pattern.TargetPattern.{TargetPattern}
use Rattle.sip_policy.specs.declared.user.User.{User}
use Rattle.sip_policy.specs.declared.who.Who.{Who}
use Rattle.sip_config_types.specs.declared.config.Config.{Config}
use Rattle.sip_config_values.specs.declared.error.ConfigError.{ConfigError}
use Rattle.sip_config_values.specs.declared.error.ConfigError.TheVariants as values
use Rattle.sip_config_values.specs.Words.{target_of, verdict_of, who_of}
use Rattle.sip_matrix.specs.declared.expectation.Askers.{Askers}
use Rattle.sip_matrix.specs.declared.expectation.Times.{Times}
use Rattle.sip_matrix.specs.declared.expectation.ExpectedDestination.{ExpectedDestination}
use Rattle.sip_matrix.specs.declared.expectation.Expectation.{Expectation}
use Rattle.sip_matrix.specs.declared.expectation.Fault.{Fault}
use Rattle.sip_matrix.specs.declared.expectation_outcome.ExpectationOutcome.{ExpectationOutcome}
use Rattle.sip_matrix.specs.Expected.{StandsSo}
use Rattle.sipd_ask.specs.declared.error.QuestionError.{QuestionError}
use Rattle.sipd_ask.specs.declared.error.QuestionError.TheVariants as questions
use Rattle.sipd_ask.specs.Question.{operation_asked}
use Rattle.sipd_expect.specs.declared.error.LineError.{LineError}
use Rattle.sipd_expect.specs.declared.error.LineError.TheVariants.{NoMemory, BadWho, UnknownGroup, BadOperation, SmallLetter, BadTarget, BadPlace, UnknownHop, Unsaid}
use Rattle.sipd_expect.specs.declared.line.ExpectedAskers.{ExpectedAskers}
use Rattle.sipd_expect.specs.Reads.{◌>>=◌}
use Rattle.sipd_expect.specs.Telling.{fault_text}
use Rattle.sipd_expect.specs.Times.{times_of}

-- ---- who asks

-- whether a word has a name behind it
abbrev pub is_named : List ℕ → Bool
is_named word = bytes_eq word (codes "user") || bytes_eq word (codes "group")

abbrev pub both : List ℕ → List ℕ → List ℕ
both word name = word ++ codes " " ++ name

-- one word, or two
abbrev pub who_text : List ℕ → List ℕ
who_text line = if is_named (word_at line) then both (word_at line) (word_at (behind_word line)) else word_at line

-- what stands behind it
abbrev pub behind_who : List ℕ → List ℕ
behind_who line = if is_named (word_at line) then behind_word (behind_word line) else behind_word line

abbrev pub has_member : List User → List ℕ → Bool
has_member users group = list_any (λ user. list_any (bytes_eq group) user.groups) users

abbrev pub asked : Askers → Who → ExpectedAskers
asked askers who = record { askers = askers; who = who }

-- who asks where a rule is for these: `anyone` is also one who proved nothing, and a group has to have a user
abbrev pub askers_for : List User → Who → Option Askers
askers_for users Who.Anyone = Some Askers.Everybody
askers_for users Who.Proven = Some Askers.Users
askers_for users (Who.User name) = Some Askers.Users
askers_for users (Who.Group group) = if has_member users group then Some Askers.Users else None

abbrev pub asked_with : Who → Option Askers → Result ExpectedAskers LineError
asked_with who None = Err UnknownGroup
asked_with who (Some askers) = Ok (asked askers who)

-- those whom a rule of these words is for
abbrev pub asked_as : List User → Result Who ConfigError → Result ExpectedAskers LineError
asked_as users (Ok who) = asked_with who (askers_for users who)
asked_as users (Err e) = Err BadWho

-- `nobody`, or as in a rule
abbrev pub asked_by : List User → List ℕ → Result ExpectedAskers LineError
asked_by users text =
    if bytes_eq text (codes "nobody") then Ok (asked Askers.Nobody Who.Anyone) else asked_as users (who_of users text)

-- ---- what, for whom

abbrev pub pattern_as : Result Operation QuestionError → Result OperationPattern LineError
pattern_as (Ok Operation.Register) = Ok Pattern.Register
pattern_as (Ok Operation.List) = Ok Pattern.List
pattern_as (Ok (Operation.Send method)) = Ok (Pattern.Send method)
pattern_as (Err questions.SmallLetter) = Err SmallLetter
pattern_as (Err e) = Err BadOperation

-- `any` method that is sent on, or what is asked of `decide`
abbrev pub operation_by : List ℕ → Result OperationPattern LineError
operation_by word =
    if bytes_eq word (codes "any") || bytes_eq word (codes "*") then Ok Pattern.SendAny else pattern_as (operation_asked word)

abbrev pub target_as : Result TargetPattern ConfigError → Result TargetPattern LineError
target_as (Ok target) = Ok target
target_as (Err e) = Err BadTarget

-- as in a rule
abbrev pub target_by : List ℕ → Result TargetPattern LineError
target_by text = target_as (target_of text)

-- ---- where it goes

abbrev pub place_as : Result RuleVerdict ConfigError → Result ExpectedDestination LineError
place_as (Ok RuleVerdict.Allow) = Err BadPlace
place_as (Ok RuleVerdict.Deny) = Err BadPlace
place_as (Ok (RuleVerdict.Via hop)) = Ok (ExpectedDestination.Hop hop)
place_as (Err values.UnknownHop) = Err UnknownHop
place_as (Err e) = Err BadPlace

-- nothing, `bindings`, or `via HOP` as in a rule
abbrev pub place_by : List ConfiguredHop → List ℕ → Result ExpectedDestination LineError
place_by hops [] = Ok ExpectedDestination.Anywhere
place_by hops (b ∷ bs) = if bytes_eq (b ∷ bs) (codes "bindings") then Ok ExpectedDestination.Bindings else place_as (verdict_of hops (b ∷ bs))

abbrev pub nothing_behind : List ℕ → Result ExpectedDestination LineError
nothing_behind [] = Ok ExpectedDestination.Anywhere
nothing_behind (b ∷ bs) = Err BadPlace

-- what is never let through goes nowhere
abbrev pub place_for : List ConfiguredHop → Times → List ℕ → Result ExpectedDestination LineError
place_for hops Times.Never text = nothing_behind text
place_for hops Times.Always text = place_by hops text
place_for hops (Times.Within window) text = place_by hops text

-- ---- the line

abbrev pub expected : ExpectedAskers → OperationPattern → TargetPattern → Times → ExpectedDestination → Expectation
expected asked operation target times place =
    record { askers = asked.askers; who = asked.who; operation = operation; target = target; times = times; place = place }

-- five parts, one behind the other
abbrev pub expectation_of : List User → List ConfiguredHop → List ℕ → Result Expectation LineError
expectation_of users hops line = do
  asked ← asked_by users (who_text line)
  operation ← operation_by (word_at (behind_who line))
  target ← target_by (word_at (behind_word (behind_who line)))
  times ← times_of (word_at (behind_word (behind_word (behind_who line))))
  place ← place_for hops times (behind_word (behind_word (behind_word (behind_who line))))
  Ok (expected asked operation target times place)

-- whether a line says nothing: it is empty, or a remark
abbrev pub is_remark : List ℕ → Bool
is_remark [] = true
is_remark (b ∷ bs) = b == byte "#"

-- ---- what is answered

-- how an expectation stands of a configuration
abbrev pub StandsFor : Config → Expectation → ExpectationOutcome → Type 0
StandsFor config e standing = StandsSo config.rules config.users config.own.domains e standing

-- a question isn't decided as expected, and this is its text
pub record FailsAt (config : Config) (e : Expectation) (text : List ℕ) : Type 0 where
  pub fault : Fault
  pub fails : StandsFor config e (ExpectationOutcome.Fails fault)
  pub told : text ≡ fault_text config fault

-- what is answered of an expectation: nothing, where it holds, or a question that isn't decided so
abbrev pub AnswersFor : Config → Expectation → Option (List ℕ) → Type 0
AnswersFor config e None = StandsFor config e ExpectationOutcome.Holds
AnswersFor config e (Some text) = FailsAt config e text

-- why nothing is: memory ran out, or there aren't examples of all that it means
abbrev pub IsRefusedFor : Config → Expectation → LineError → Type 0
IsRefusedFor config e why = (why ≡ NoMemory) ⊎ ((why ≡ Unsaid) × StandsFor config e ExpectationOutcome.Unsaid)

-- a line is an expectation, and this is answered of it
pub record AnswersLine (config : Config) (line : List ℕ) (answer : Option (List ℕ)) : Type 0 where
  pub expectation : Expectation
  pub read : expectation_of config.users config.hops line ≡ Ok expectation
  pub answered : AnswersFor config expectation answer

-- it is one, of which nothing is answered for this
pub record RefusesLine (config : Config) (line : List ℕ) (why : LineError) : Type 0 where
  pub expectation : Expectation
  pub read : expectation_of config.users config.hops line ≡ Ok expectation
  pub refused : IsRefusedFor config expectation why

-- what is answered of a line: nothing, where it says nothing, or what is answered of the expectation that it is
abbrev pub Answers : Config → List ℕ → Option (List ℕ) → Type 0
Answers config line answer = ((is_remark line ≡ true) × (answer ≡ None)) ⊎ AnswersLine config line answer

-- why nothing is: memory ran out, or it is none, or nothing is answered of that
abbrev pub IsRefused : Config → List ℕ → LineError → Type 0
IsRefused config line why = (why ≡ NoMemory) ⊎ (expectation_of config.users config.hops line ≡ Err why) ⊎ RefusesLine config line why
