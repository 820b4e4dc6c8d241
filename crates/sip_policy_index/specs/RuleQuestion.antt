-- What is asked of the rules.
use Rattle.std.specs.Prelude.{◌≡◌, ℕ, Bool, List, Option, Some, None}
use Rattle.std.specs.List.{list_any}
use Rattle.std.specs.Str.{bytes_eq}
use Rattle.std.specs.Option.{option_copied}
use Rattle.sip_policy.specs.User.{is_in_group}
use Rattle.sip_policy.specs.declared.user.User.{User}
use Rattle.sip_policy.specs.declared.rule.Rule.{Rule}
use Rattle.sip_policy.specs.Rule.{applies}
use Rattle.sip_policy_index.specs.Code.{is_of_operation, is_of_classes, class_codes}
use Rattle.sip_policy_index.specs.declared.rule_question.RuleQuestion.{RuleQuestion}

-- whether a rule applies to what is asked
abbrev pub applies_to : RuleQuestion → Rule → Bool
applies_to asked rule = applies asked.users.now asked.domains.now (option_copied asked.proven) asked.operation.now asked.aor.now asked.minute rule

-- whether a rule is among those that are looked at for an operation pattern's code: with nobody proven those of the operation, for a
-- proven user those of one of the user's classes
abbrev pub is_looked_at : Option (List ℕ) → List (List ℕ) → ℕ → Rule → Bool
is_looked_at None groups operation rule = is_of_operation operation rule
is_looked_at (Some name) groups operation rule = is_of_classes (class_codes name groups operation) rule

-- groups are those of the user of a name
pub record AreGroupsOf (users : List User) (name : List ℕ) (groups : List (List ℕ)) : Type 0 where
  pub are : (group : List ℕ) → is_in_group users name group ≡ list_any (bytes_eq group) groups

-- groups are those of the proven user, if one is
pub record AreGroupsOfProven (users : List User) (proven : Option (List ℕ)) (groups : List (List ℕ)) : Type 0 where
  pub are : (name : List ℕ) → proven ≡ Some name → AreGroupsOf users name groups
