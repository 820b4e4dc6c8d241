-- Rules with their index.
use Rattle.std.specs.Prelude.{List}
use Rattle.sip_policy.specs.declared.rule.Rule.{Rule}
use Rattle.sip_policy_index.specs.Code.{is_of_operation, is_of_class}
use Rattle.sip_policy_index.specs.Places.{AreFiled}
use Rattle.sip_policy_index.specs.declared.index.Index.{Index}

-- an index has the places of some rules
pub record IsIndexOf (rules : List Rule) (index : Index) : Type 0 where
  pub operations : AreFiled is_of_operation rules index.by_operation
  pub classes : AreFiled is_of_class rules index.by_class
