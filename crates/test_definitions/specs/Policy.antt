-- Rules of which one stands alone, and what they decide of the sample's users.
use Rattle.std.specs.Prelude.{ℕ, List, [], ◌∷◌, codes, Option, Some}
use Rattle.sip_uri.specs.declared.aor.Aor.{Aor}
use Rattle.sip_uri.specs.Examples.{sample_domains}
use Rattle.sip_policy.specs.declared.who.Who.{Who}
use Rattle.sip_policy.specs.declared.operation.Operation.{Operation}
use Rattle.sip_policy.specs.declared.operation.OperationPattern.{OperationPattern}
use Rattle.sip_policy.specs.declared.operation.OperationPattern.TheVariants as Pattern
use Rattle.sip_policy.specs.declared.target_pattern.TargetPattern.{TargetPattern}
use Rattle.sip_policy.specs.declared.target_pattern.TargetPattern.TheVariants as Target
use Rattle.sip_policy.specs.declared.rule_verdict.RuleVerdict.{RuleVerdict}
use Rattle.sip_policy.specs.declared.rule.Rule.{Rule}
use Rattle.sip_policy.specs.declared.decision.Decision.{Decision}
use Rattle.sip_policy.specs.Examples.{sample_users, rule_of, user_at, by_day}
use Rattle.sip_policy.specs.Decision.{decision_of, recorded_minute}

-- rule 8, which allows what these patterns match
abbrev pub allowing : Who → OperationPattern → TargetPattern → Rule
allowing who operation target = rule_of 8 who operation target RuleVerdict.Allow

-- an address of record in the sample's domain
abbrev pub at_home : List ℕ → Aor
at_home user = user_at user (codes "host.com")

-- what one rule decides alone, at midnight
abbrev pub decision_by : Rule → Option (List ℕ) → Operation → Aor → Decision
decision_by rule proven operation aor = decision_of (rule ∷ []) sample_users sample_domains proven operation aor 0

-- the minute that is recorded at eight of an INVITE to help, where a rule for these who ask has the window of the day and stands alone
abbrev pub minute_by : Who → Option (List ℕ) → Option ℕ
minute_by who proven =
    recorded_minute (record (allowing who Pattern.SendAny Target.Any) { window = Some by_day } ∷ []) sample_users sample_domains proven
    (Operation.Send (codes "INVITE")) (at_home (codes "help")) 480
