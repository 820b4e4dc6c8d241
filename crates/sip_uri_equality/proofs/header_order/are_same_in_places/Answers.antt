use Rattle.std.proofs.Common.{◌∙◌}
use Rattle.sip_uri_equality.proofs.HeaderLaws.{in_order_pairs}
use Rattle.sip_uri_equality.proofs.header_order.are_same_in_places.Goals as goal

pub returns : goal.returns
returns c =
    c.ordered_are_same.ensures
    ∙ in_order_pairs c.args.left.now c.args.right.now _ _ c.put_in_order.ensures.moved c.put_in_order-2.ensures.moved c.put_in_order.ensures.in_order
    c.put_in_order-2.ensures.in_order
