use Rattle.std.proofs.Common.{take}
use Rattle.sip_policy_index.specs.Code.{is_of_operation}
use Rattle.sip_policy_index.specs.Places.{AreFiled}
use Rattle.sip_policy_index.proofs.places.RulePlaces.by_operation.Given as goal

-- the rules so far are filed
abbrev pub invariant-loop-at : goal.invariant-loop-at
invariant-loop-at l = AreFiled is_of_operation (take l.at l.rules) l.places
