use Rattle.std.proofs.Common.{sym, ap, ◌∙◌}
use Rattle.sip_text.specs.Splits.{split_at_byte}
use Rattle.sip_route.proofs.Front.{none_by, not_own}
use Rattle.sip_route.proofs.way.may_be_own.Goals as goal

pub returns : goal.returns
returns c = λ none.
    not_own c.args.own.now c.args.uri.now (sym c.begins_as_own.ensures ∙ c.if-begins_as_own.false)
    (none_by _ c.split_once.result _ c.is_some.result (c.split_once.ensures ∙ ap (split_at_byte 37) c.as_slice.ensures) c.is_some.ensures none)
