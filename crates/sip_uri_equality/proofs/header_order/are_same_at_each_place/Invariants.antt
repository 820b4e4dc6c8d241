use Rattle.std.proofs.Common.{◌≡◌, drop}
use Rattle.std.specs.Cmp.Lexicographic.{pointwise}
use Rattle.sip_uri_equality.specs.Equality.{is_same_header}
use Rattle.sip_uri_equality.specs.Order.{those_of}
use Rattle.sip_uri_equality.proofs.header_order.are_same_at_each_place.Given as goal

-- the rests decide
abbrev pub invariant-loop-index : goal.invariant-loop-index
invariant-loop-index l = pointwise is_same_header (those_of (drop l.index l.left)) (those_of (drop l.index l.right))
    ≡ pointwise is_same_header (those_of l.fn.left) (those_of l.fn.right)
