use Rattle.std.proofs.Common.{sym, ◌∙◌}
use Rattle.sip_uri_equality.specs.Order.{those_of}
use Rattle.sip_uri_equality.proofs.ParameterLaws.{less_counts, less_goes, greater_counts, greater_goes, same_name, values_differ}
use Rattle.sip_uri_equality.proofs.parameter_order.past_first.Goals as goal

pub returns-then-is_never_ignored : goal.returns-then-is_never_ignored
returns-then-is_never_ignored c =
    less_counts c.args.first.now c.args.second.now (those_of c.args.left.now) (those_of c.args.right.now) _ _ c.as_slice-name.ensures c.as_slice-other_name.ensures
    c.in-Less.ensures (sym c.is_never_ignored.ensures ∙ c.if-is_never_ignored.true) c.requires.right

pub returns-else-is_never_ignored : goal.returns-else-is_never_ignored
returns-else-is_never_ignored c =
    less_goes c.args.first.now c.args.second.now (those_of c.args.left.now) (those_of c.args.right.now) _ _ c.as_slice-name.ensures c.as_slice-other_name.ensures
    c.in-Less.ensures (sym c.is_never_ignored.ensures ∙ c.if-is_never_ignored.false) c.requires.right

pub returns-then-is_never_ignored-2 : goal.returns-then-is_never_ignored-2
returns-then-is_never_ignored-2 c =
    greater_counts c.args.first.now c.args.second.now (those_of c.args.left.now) (those_of c.args.right.now) _ _ c.as_slice-name.ensures c.as_slice-other_name.ensures
    c.in-Greater.ensures (sym c.is_never_ignored-in-Greater.ensures ∙ c.if-is_never_ignored-2.true) c.requires.left

pub returns-else-is_never_ignored-2 : goal.returns-else-is_never_ignored-2
returns-else-is_never_ignored-2 c =
    greater_goes c.args.first.now c.args.second.now (those_of c.args.left.now) (those_of c.args.right.now) _ _ c.as_slice-name.ensures c.as_slice-other_name.ensures
    c.in-Greater.ensures (sym c.is_never_ignored-in-Greater.ensures ∙ c.if-is_never_ignored-2.false) c.requires.left

pub past_pair-requires-clause-name : goal.past_pair-requires-clause-name
past_pair-requires-clause-name c =
    same_name c.args.first.now c.args.second.now (those_of c.args.left.now) (those_of c.args.right.now) _ _ c.as_slice-name.ensures c.as_slice-other_name.ensures
    c.in-Equal.ensures

pub returns-then-not-are_same_values : goal.returns-then-not-are_same_values
returns-then-not-are_same_values c =
    values_differ c.args.first.now c.args.second.now (those_of c.args.left.now) (those_of c.args.right.now)
    (same_name c.args.first.now c.args.second.now (those_of c.args.left.now) (those_of c.args.right.now) _ _ c.as_slice-name.ensures c.as_slice-other_name.ensures
    c.in-Equal.ensures)
    (sym c.are_same_values.ensures ∙ c.if-not-are_same_values.true)
