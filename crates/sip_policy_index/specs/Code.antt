-- The codes under which places of rules are filed. No decision depends on them.
use Rattle.std.specs.Prelude.{ℕ, Bool, nat_eq, List, ◌∷◌, map, fold}
use Rattle.std.specs.List.{list_any}
use Rattle.sip_base.specs.Code.{mixed}
use Rattle.sip_policy.specs.declared.operation.OperationPattern.{OperationPattern}
use Rattle.sip_policy.specs.declared.operation.OperationPattern.TheVariants as Pattern
use Rattle.sip_policy.specs.declared.who.Who.{Who}
use Rattle.sip_policy.specs.declared.who.Who.TheVariants.{Anyone, Proven, Group}
use Rattle.sip_policy.specs.declared.rule.Rule.{Rule}

-- a code with a text behind it
unfoldable pub text_code : ℕ → List ℕ → ℕ
text_code start text = fold mixed start text

-- the code of an operation pattern
abbrev pub operation_code : OperationPattern → ℕ
operation_code Pattern.Register = 1
operation_code Pattern.List = 2
operation_code Pattern.SendAny = 3
operation_code (Pattern.Send method) = text_code 4 method

-- the code of an operation pattern's code and a user pattern; `anyone` and `proven` have the same, since each proven user is of both
abbrev pub class_code : ℕ → Who → ℕ
class_code operation Anyone = mixed operation 1
class_code operation Proven = mixed operation 1
class_code operation (Who.User name) = text_code (mixed operation 2) name
class_code operation (Group group) = text_code (mixed operation 3) group

-- whether a rule's operation pattern has a code
abbrev pub is_of_operation : ℕ → Rule → Bool
is_of_operation code rule = nat_eq code (operation_code rule.operation)

-- whether a rule's operation and user patterns have a code
abbrev pub is_of_class : ℕ → Rule → Bool
is_of_class code rule = nat_eq code (class_code (operation_code rule.operation) rule.who)

-- whether they have one of some codes
abbrev pub is_of_classes : List ℕ → Rule → Bool
is_of_classes codes rule = list_any (λ code. is_of_class code rule) codes

-- the codes of groups, behind that of an operation pattern
abbrev pub group_codes : ℕ → List (List ℕ) → List ℕ
group_codes operation groups = map (λ group. text_code (mixed operation 3) group) groups

-- the codes of the user patterns that a proven user of these groups is of, behind that of an operation pattern
abbrev pub class_codes : List ℕ → List (List ℕ) → ℕ → List ℕ
class_codes name groups operation = mixed operation 1 ∷ text_code (mixed operation 2) name ∷ group_codes operation groups
