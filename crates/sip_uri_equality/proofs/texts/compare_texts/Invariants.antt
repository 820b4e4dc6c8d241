use Rattle.std.proofs.Common.{◌≡◌, length}
use Rattle.sip_uri_equality.specs.Order.{order_of_texts}
use Rattle.sip_uri_equality.proofs.texts.compare_texts.Given as goal

-- the rests decide
abbrev pub invariant-loop-symbol : goal.invariant-loop-symbol
invariant-loop-symbol l = order_of_texts l.left_rest l.right_rest ≡ order_of_texts l.fn.left l.fn.right

abbrev pub decreases-loop-symbol : goal.decreases-loop-symbol
decreases-loop-symbol l = length l.left_rest
