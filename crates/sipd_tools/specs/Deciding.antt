-- What `decide` prints, and what is expected of it.
use Rattle.std.specs.Prelude.{◌≡◌, ◌⊎◌, ⊤, ℕ, ℤ, List, Option, Some, None, option_map, string_bytes, Ok}
use Rattle.std.specs.Io.KnownBytes.{Appends}
use Rattle.sip_policy.specs.declared.decision.Decision.{Decision}
use Rattle.sip_policy.specs.Window.{minute_of}
use Rattle.sip_config_types.specs.declared.config.Config.{Config}
use Rattle.sipd_ask.specs.declared.answer.Answer.{Answer}
use Rattle.sipd_ask.specs.Question.{ShownQuestion}
use Rattle.sipd_ask.specs.Answers.{answer_to}
use Rattle.sipd_arguments.specs.declared.call.DecideCall.{DecideCall}
use Rattle.sipd_arguments.specs.declared.call.DecideCall.TheVariants.{Question, Log}
use Rattle.sipd_arguments.specs.declared.call.QuestionCall.{QuestionCall}
use Rattle.sipd_arguments.specs.declared.call.ExpectedDecision.{ExpectedDecision}
use Rattle.sipd_arguments.specs.declared.call.ExpectedDecision.TheVariants.{Allow, Deny, Challenge}
use Rattle.sipd_exit.specs.declared.exit.Exit.{Exit}
use Rattle.sipd_exit.specs.declared.exit.Exit.TheVariants.{OtherDecision}
use Rattle.sipd_expect.specs.LogSteps.{AsksAgain, IsRefused}
use Rattle.sipd_expect.specs.declared.counts.Counts.{Counts}
use Rattle.sipd_tools.specs.Against.{IsStated}
use Rattle.sipd_report.specs.declared.error.ReportError.{ReportError}
use Rattle.sipd_tools.specs.Ends.{IsUntold}
use Rattle.sipd_tools.specs.Reporting.{exit_of_report}

-- what a decision is to who expects one: a rule that lets a request through allows it, whether by a hop or not, and whether anybody is there
abbrev pub verdict_of : Decision → ExpectedDecision
verdict_of (Decision.Allow id) = Allow
verdict_of (Decision.Via id place) = Allow
verdict_of (Decision.Deny id) = Deny
verdict_of Decision.Challenge = Challenge

-- what the rules decide is what is expected, if something is; where a check refuses what is asked before any rule is, no rule decides so
abbrev pub IsExpected : Option ExpectedDecision → Option Decision → Type 0
IsExpected None decision = ⊤
IsExpected (Some verdict) decision = option_map verdict_of decision ≡ Some verdict

-- the minute of the office's day that is asked for: the one that is named, or that of a moment
abbrev pub IsMinute : Option ℕ → ℤ → ℕ → Type 0
IsMinute (Some named) offset minute = minute ≡ named
IsMinute None offset minute = (moment : ℕ) × (minute ≡ minute_of moment offset)

-- what a call asks at a minute
abbrev pub question_at : QuestionCall → ℕ → ShownQuestion
question_at call minute = record {
  user = option_map string_bytes call.user;
  minute = minute;
  operation = string_bytes call.method;
  target = string_bytes call.target;
}

-- it was answered by a configuration, and the answer was printed
abbrev pub Answered : Config → QuestionCall → ℕ → Option (List ℕ) → Option (List ℕ) → Option Decision → Type 0
Answered config call minute old new decision =
    (answer : Answer) × (answer_to config (question_at call minute) ≡ Ok answer) × Appends old new answer.text × (decision ≡ answer.decision)

-- a configuration's answer was printed, and it is the expected one
pub record AnswersAsExpected (config : Config) (call : QuestionCall) (minute : ℕ) (old new : Option (List ℕ)) : Type 0 where
  pub decision : Option Decision
  pub answered : Answered config call minute old new decision
  pub expected : IsExpected call.expect decision

-- it was printed, and another one is expected
pub record AnswersOtherwise (config : Config) (call : QuestionCall) (minute : ℕ) (old new : Option (List ℕ)) : Type 0 where
  pub decision : Option Decision
  pub answered : Answered config call minute old new decision
  pub other : IsExpected call.expect decision → ⊥

-- the end, if it isn't so: there is none, or not all of it is printed; or another one is expected
abbrev pub EndsAnswering : Config → QuestionCall → ℕ → Option (List ℕ) → Option (List ℕ) → Exit → Type 0
EndsAnswering config call minute old new exit = IsUntold exit ⊎ ((exit ≡ OtherDecision) × AnswersOtherwise config call minute old new)

-- The answer that a stated configuration gives at the minute that is asked for was printed, and it is the expected one.
pub record DecidesOne (call : QuestionCall) (old new : Option (List ℕ)) : Type 0 where
  pub config : Config
  pub minute : ℕ
  pub stated : IsStated config
  pub taken : IsMinute call.minute config.offset minute
  pub answers : AnswersAsExpected config call minute old new

-- what a stated configuration answers at the minute that is asked for ends so
pub record EndsOne (call : QuestionCall) (old new : Option (List ℕ)) (exit : Exit) : Type 0 where
  pub config : Config
  pub minute : ℕ
  pub stated : IsStated config
  pub taken : IsMinute call.minute config.offset minute
  pub ends : EndsAnswering config call minute old new exit

-- the end, if that isn't so; one before there is an answer leaves what was printed as it is
abbrev pub DecidesOtherwise : QuestionCall → Option (List ℕ) → Option (List ℕ) → Exit → Type 0
DecidesOtherwise call old new exit = (new ≡ old) ⊎ EndsOne call old new exit

-- What a log tells was asked again under a stated configuration, and exactly what would be decided otherwise was printed.
pub record DecidesLog (input old new : Option (List ℕ)) : Type 0 where
  pub config : Config
  pub counts : Counts
  pub stated : IsStated config
  pub asked : AsksAgain config input old new counts

-- a front of what is told of a log was printed, and it ends as that refusal does
pub record EndsLog (config : Config) (input old new : Option (List ℕ)) (reader_stopped writer_stopped : Type 0) (exit : Exit) : Type 0 where
  pub why : ReportError
  pub refused : IsRefused config input old new reader_stopped writer_stopped why
  pub same : exit ≡ exit_of_report why

-- a question, or a log on standard input, is decided
abbrev pub Decides : DecideCall → Option (List ℕ) → Option (List ℕ) → Option (List ℕ) → Type 0
Decides (Question call) input old new = DecidesOne call old new
Decides (Log config) input old new = DecidesLog input old new

-- the end of a question, if it isn't so
abbrev pub EndsDeciding : DecideCall → Option (List ℕ) → Option (List ℕ) → Exit → Type 0
EndsDeciding (Question call) old new exit = DecidesOtherwise call old new exit
EndsDeciding (Log config) old new exit = ⊤
