-- What policy decides (this project's profile).
use Rattle.std.specs.Prelude.{ℕ, List, Option, Some, None, option_map, find, if◌then◌else◌}
use Rattle.sip_uri.specs.declared.aor.Aor.{Aor}
use Rattle.sip_policy.specs.declared.operation.Operation.{Operation}
use Rattle.sip_policy.specs.declared.user.User.{User}
use Rattle.sip_policy.specs.declared.rule.Rule.{Rule}
use Rattle.sip_policy.specs.declared.rule_verdict.RuleVerdict.{RuleVerdict}
use Rattle.sip_policy.specs.declared.decision.Decision.{Decision}
use Rattle.sip_policy.specs.Rule.{applies, needs_no_proof}

-- what the verdict of the rule of a number comes to
abbrev pub decision_for : ℕ → RuleVerdict → Decision
decision_for id RuleVerdict.Allow = Decision.Allow id
decision_for id RuleVerdict.Deny = Decision.Deny id
decision_for id (RuleVerdict.Via hop) = Decision.Via id hop

-- what a rule that matches decides: its verdict, but with nobody proven a challenge unless it needs no proof
abbrev pub decision_by : Option (List ℕ) → Rule → Decision
decision_by (Some name) rule = decision_for rule.id rule.verdict
decision_by None rule = if needs_no_proof rule then decision_for rule.id rule.verdict else Decision.Challenge

-- without a rule: denied by rule 0
abbrev pub decision_with : Option (List ℕ) → Option Rule → Decision
decision_with proven None = Decision.Deny 0
decision_with proven (Some rule) = decision_by proven rule

-- the rule that decides about a request at a minute of the day: the first of the list that holds then and matches
abbrev pub deciding_rule : List Rule → List User → List (List ℕ) → Option (List ℕ) → Operation → Aor → ℕ → Option Rule
deciding_rule rules users domains proven operation aor minute = find (applies users domains proven operation aor minute) rules

-- what the rules decide at a minute of the day, for a proven user of this name or for nobody
abbrev pub decision_of : List Rule → List User → List (List ℕ) → Option (List ℕ) → Operation → Aor → ℕ → Decision
decision_of rules users domains proven operation aor minute = decision_with proven (deciding_rule rules users domains proven operation aor minute)

-- the minute that is recorded of a decision by a rule: that of the day, if the rule has a window; with a challenge no rule is named, and no minute
abbrev pub minute_for : Decision → ℕ → Option Rule → Option ℕ
minute_for Decision.Challenge minute rule = None
minute_for decision minute None = None
minute_for decision minute (Some rule) = option_map (λ window. minute) rule.window

-- the minute that is recorded of what the rules decide: where the deciding rule has a window
abbrev pub recorded_minute : List Rule → List User → List (List ℕ) → Option (List ℕ) → Operation → Aor → ℕ → Option ℕ
recorded_minute rules users domains proven operation aor minute =
    minute_for (decision_of rules users domains proven operation aor minute) minute (deciding_rule rules users domains proven operation aor minute)
