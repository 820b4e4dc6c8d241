use Rattle.std.proofs.Common.{◌∙◌}
use Rattle.sip_uri_equality.proofs.ParameterLaws.{in_any_order}
use Rattle.sip_uri_equality.proofs.parameter_order.many_are_same.Goals as goal

pub returns : goal.returns
returns c =
    rw (c.as_slice.ensures.value, c.as_slice-2.ensures.value) at c.ordered_are_same.ensures
    ∙ in_any_order c.args.left.now c.args.right.now _ _ c.in_ok-left_places.ensures.moved c.in_ok-right_places.ensures.moved
