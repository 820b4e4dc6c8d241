use Rattle.std.proofs.Common.{◌≡◌, ◌+◌, ◌-◌, ◌≤◌, length, drop}
use Rattle.sip_uri_equality.specs.Equality.{are_same_parameters}
use Rattle.sip_uri_equality.specs.Order.{those_of}
use Rattle.sip_uri_equality.proofs.parameter_order.ordered_are_same.Given as goal

-- what is left decides
abbrev pub invariant-loop-left_at : goal.invariant-loop-left_at
invariant-loop-left_at l = record {
  left : l.left_at ≤ length l.left;
  right : l.right_at ≤ length l.right;
  same : are_same_parameters (those_of (drop l.left_at l.left)) (those_of (drop l.right_at l.right)) ≡ are_same_parameters (those_of l.fn.left) (those_of l.fn.right);
}

abbrev pub decreases-loop-left_at : goal.decreases-loop-left_at
decreases-loop-left_at l = (length l.left - l.left_at) + (length l.right - l.right_at)
