use Rattle.std.proofs.Common.{◌≡◌, length}
use Rattle.sip_uri_equality.specs.Equality.{says_same}
use Rattle.sip_uri_equality.specs.Order.{order_of_texts}
use Rattle.sip_uri_equality.proofs.texts.behind_front.Given as goal

-- the rests decide
abbrev pub invariant-loop-left_behind : goal.invariant-loop-left_behind
invariant-loop-left_behind l = (says_same l.left_rest l.right_rest ≡ says_same l.fn.left l.fn.right)
    × (order_of_texts l.left_rest l.right_rest ≡ order_of_texts l.fn.left l.fn.right)

abbrev pub decreases-loop-left_behind : goal.decreases-loop-left_behind
decreases-loop-left_behind l = length l.left_rest
