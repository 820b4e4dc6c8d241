use Rattle.std.proofs.Common.{◌∙◌, sym}
use Rattle.sip_validate.proofs.Vias.{own_on_top, own_behind}
use Rattle.sip_validate.proofs.faults.one_is_own_via.Goals as goal

pub returns-then-is_own_via-clause-own : goal.returns-then-is_own_via-clause-own
returns-then-is_own_via-clause-own c = own_on_top c.args.own.now c.args.fields.now c.args.top.now c.requires (sym c.is_own_via.ensures ∙ c.if-is_own_via.true)

pub returns-clause-own : goal.returns-clause-own
returns-clause-own c =
    let some_is = rw c.in-Some.is at c.in_ok-some.ensures.own in
    some_is
    ∙ own_behind c.args.own.now c.args.fields.now c.behind_first-behind.result.now c.args.top.now c.requires (sym c.is_own_via.ensures ∙ c.if-is_own_via.false)
    c.behind_first-behind.ensures
