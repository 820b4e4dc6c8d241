use Rattle.std.proofs.Common.{sym, ap, ◌∙◌}
use Rattle.sip_uri_equality.specs.Order.{begins_with, those_of}
use Rattle.sip_uri_equality.proofs.ParameterLaws.{goes_left, goes_right, goes_both}
use Rattle.sip_uri_equality.proofs.parameter_order.past_pair.Goals as goal

pub returns-then-begins_with_name : goal.returns-then-begins_with_name
returns-then-begins_with_name c =
    goes_left c.args.first.now c.args.second.now (those_of c.args.left.now) (those_of c.args.right.now) c.requires.name c.requires.value
    (sym (c.begins_with_name.ensures ∙ ap (λ n. begins_with n (those_of c.args.left.now)) c.as_slice.ensures) ∙ c.if-begins_with_name.true)

pub returns-then-begins_with_name-2 : goal.returns-then-begins_with_name-2
returns-then-begins_with_name-2 c =
    goes_right c.args.first.now c.args.second.now (those_of c.args.left.now) (those_of c.args.right.now) c.requires.name c.requires.value
    (sym (c.begins_with_name-2.ensures ∙ ap (λ n. begins_with n (those_of c.args.right.now)) c.as_slice-2.ensures) ∙ c.if-begins_with_name-2.true)

pub returns : goal.returns
returns c =
    goes_both c.args.first.now c.args.second.now (those_of c.args.left.now) (those_of c.args.right.now) c.requires.name c.requires.value c.requires.left c.requires.right
    (sym (c.begins_with_name.ensures ∙ ap (λ n. begins_with n (those_of c.args.left.now)) c.as_slice.ensures) ∙ c.if-begins_with_name.false)
    (sym (c.begins_with_name-2.ensures ∙ ap (λ n. begins_with n (those_of c.args.right.now)) c.as_slice-2.ensures) ∙ c.if-begins_with_name-2.false)
