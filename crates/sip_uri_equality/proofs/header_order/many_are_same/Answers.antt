use Rattle.std.proofs.Common.{◌∙◌}
use Rattle.sip_uri_equality.proofs.HeaderLaws.{in_order_pairs}
use Rattle.sip_uri_equality.proofs.header_order.many_are_same.Goals as goal

pub returns : goal.returns
returns c =
    rw (c.as_slice.ensures.value, c.as_slice-2.ensures.value) at c.ordered_are_same.ensures
    ∙ in_order_pairs c.args.left.now c.args.right.now _ _ c.in_ok-left_places.ensures.moved c.in_ok-right_places.ensures.moved c.in_ok-left_places.ensures.in_order
    c.in_ok-right_places.ensures.in_order
