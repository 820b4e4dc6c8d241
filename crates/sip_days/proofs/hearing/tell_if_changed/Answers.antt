use Rattle.std.proofs.Common.{sym, ◌∙◌}
use Rattle.sip_days.proofs.Unchanged.{none_changed}
use Rattle.sip_days.proofs.hearing.tell_if_changed.Goals as goal

-- a step that answers nobody and brings no BYE
pub returns-clause-told : goal.returns-clause-told
returns-clause-told c =
    none_changed c.args.bye.now c.args.out.now c.args.calls.now (sym c.is_some.ensures ∙ c.if-is_some.false) (sym c.answers.ensures ∙ c.if-answers.false)
