-- The sample configuration's users, domains and rules, and the requests of the worked examples.
use Rattle.std.specs.Prelude.{ℕ, List, [], ◌∷◌, codes, Option, Some, None, pos}
use Rattle.sip_uri.specs.declared.aor.Aor.{Aor}
use Rattle.sip_uri.specs.Examples.{sample_domains}
use Rattle.sip_policy.specs.declared.who.Who.{Who}
use Rattle.sip_policy.specs.declared.operation.Operation.{Operation}
use Rattle.sip_policy.specs.declared.operation.OperationPattern.{OperationPattern}
use Rattle.sip_policy.specs.declared.operation.OperationPattern.TheVariants as Pattern
use Rattle.sip_policy.specs.declared.target_pattern.TargetPattern.{TargetPattern}
use Rattle.sip_policy.specs.declared.target_pattern.TargetPattern.TheVariants as Target
use Rattle.sip_policy.specs.declared.rule_verdict.RuleVerdict.{RuleVerdict}
use Rattle.sip_policy.specs.declared.rule.Rule.{Rule}
use Rattle.sip_policy.specs.declared.window.Window.{Window}
use Rattle.sip_policy.specs.declared.user.User.{User}
use Rattle.sip_policy.specs.declared.decision.Decision.{Decision}
use Rattle.sip_policy.specs.Window.{minute_of}
use Rattle.sip_policy.specs.Decision.{decision_of, recorded_minute}

-- a user without H(A1) by SHA-256
abbrev pub user_of : List ℕ → List ℕ → List (List ℕ) → User
user_of name a1 groups = record { name = name; a1 = a1; a1_sha256 = None; groups = groups }

-- H(A1) of Mufasa, whose password is `Circle Of Life` (RFC 2617 3.5)
abbrev pub mufasas_a1 : List ℕ
mufasas_a1 = codes "939e7578ed9e3c518a452acee763bce9"

-- alice's, of no known password
abbrev pub alices_a1 : List ℕ
alices_a1 = codes "11111111111111111111111111111111"

-- Mufasa is of the group `staff`; `alice` and `help` are of none
abbrev pub sample_users : List User
sample_users =
    user_of (codes "Mufasa") mufasas_a1 (codes "staff" ∷ [])
    ∷ user_of (codes "alice") alices_a1 []
    ∷ user_of (codes "help") (codes "22222222222222222222222222222222") []
    ∷ []

-- a rule without a window
abbrev pub rule_of : ℕ → Who → OperationPattern → TargetPattern → RuleVerdict → Rule
rule_of id who operation target verdict = record { id = id; who = who; operation = operation; target = target; window = None; verdict = verdict }

-- proven, register, self: allow
abbrev pub rule_1 : Rule
rule_1 = rule_of 1 Who.Proven Pattern.Register Target.SelfTarget RuleVerdict.Allow

-- proven, list, self: allow
abbrev pub rule_2 : Rule
rule_2 = rule_of 2 Who.Proven Pattern.List Target.SelfTarget RuleVerdict.Allow

-- anyone, send *, vault@host.com: deny
abbrev pub rule_3 : Rule
rule_3 = rule_of 3 Who.Anyone Pattern.SendAny (Target.Exact (codes "vault") (codes "host.com")) RuleVerdict.Deny

-- anyone, send *, help@host.com: allow
abbrev pub rule_4 : Rule
rule_4 = rule_of 4 Who.Anyone Pattern.SendAny (Target.Exact (codes "help") (codes "host.com")) RuleVerdict.Allow

-- group staff, send INVITE, 9*@host.com: via gw, the first configured hop
abbrev pub rule_5 : Rule
rule_5 = rule_of 5 (Who.Group (codes "staff")) (Pattern.Send (codes "INVITE")) (Target.Prefix (codes "9") (codes "host.com")) (RuleVerdict.Via 0)

-- proven, send *, @host.com: allow
abbrev pub rule_6 : Rule
rule_6 = rule_of 6 Who.Proven Pattern.SendAny (Target.Prefix [] (codes "host.com")) RuleVerdict.Allow

abbrev pub sample_rules : List Rule
sample_rules = rule_1 ∷ rule_2 ∷ rule_3 ∷ rule_4 ∷ rule_5 ∷ rule_6 ∷ []

abbrev pub user_at : List ℕ → List ℕ → Aor
user_at user host = record { user = user; host = host }

-- what the sample's rules decide, at midnight; none of them has a window, so it is the same at every minute
abbrev pub sample_decision : Option (List ℕ) → Operation → Aor → Decision
sample_decision proven operation aor = decision_of sample_rules sample_users sample_domains proven operation aor 0

-- the sample's rules, of which rule 4 has a window
abbrev pub rules_with : Window → List Rule
rules_with window = rule_1 ∷ rule_2 ∷ rule_3 ∷ record rule_4 { window = Some window } ∷ rule_5 ∷ rule_6 ∷ []

-- 8:00 to before 18:00
abbrev pub by_day : Window
by_day = record { from = 480; until = 1080 }

-- 18:00 to before 8:00
abbrev pub by_night : Window
by_night = record { from = 1080; until = 480 }

-- what these rules decide of an INVITE to help@host.com at a moment, an hour ahead of UTC
abbrev pub call_to_help : Window → Option (List ℕ) → ℕ → Decision
call_to_help window proven now =
    decision_of (rules_with window) sample_users sample_domains proven (Operation.Send (codes "INVITE"))
    (user_at (codes "help") (codes "host.com")) (minute_of now (pos 60))

-- the minute that is recorded of it
abbrev pub recorded_call : Window → Option (List ℕ) → ℕ → Option ℕ
recorded_call window proven now =
    recorded_minute (rules_with window) sample_users sample_domains proven (Operation.Send (codes "INVITE"))
    (user_at (codes "help") (codes "host.com")) (minute_of now (pos 60))
