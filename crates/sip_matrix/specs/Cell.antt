-- Cells of the table, and what is decided in one.
use Rattle.std.specs.Prelude.{ℕ, Bool, ◌&&◌, List, Option, find}
use Rattle.sip_policy.specs.declared.decision.Decision.{Decision}
use Rattle.sip_policy.specs.declared.operation.Operation.{Operation}
use Rattle.sip_policy.specs.declared.user.User.{User}
use Rattle.sip_policy.specs.declared.rule.Rule.{Rule}
use Rattle.sip_policy.specs.Window.{holds}
use Rattle.sip_policy.specs.Who.{matches_who}
use Rattle.sip_policy.specs.Operation.{matches_operation}
use Rattle.sip_policy.specs.Decision.{decision_with}
use Rattle.sip_matrix.specs.declared.column.Column.{Column}
use Rattle.sip_matrix.specs.Column.{meets}

-- whether a rule applies in the cell of a row, a column and a piece of the day, where the addresses are the asker's own or not
abbrev pub applies_in : List User → Option (List ℕ) → Operation → Column → Bool → ℕ → Rule → Bool
applies_in users row operation column own piece rule =
    holds piece rule.window && (matches_operation operation rule.operation && (meets own column rule.target && matches_who users row rule.who))

-- the rule that decides in a cell
abbrev pub rule_in : List Rule → List User → Option (List ℕ) → Operation → Column → Bool → ℕ → Option Rule
rule_in rules users row operation column own piece = find (applies_in users row operation column own piece) rules

-- what is decided in a cell
abbrev pub decision_in : List Rule → List User → Option (List ℕ) → Operation → Column → Bool → ℕ → Decision
decision_in rules users row operation column own piece = decision_with row (rule_in rules users row operation column own piece)
