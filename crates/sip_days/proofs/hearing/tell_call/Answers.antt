use Rattle.std.proofs.Common.{sym, ◌∙◌}
use Rattle.sip_days.proofs.Told.{answered_before, answered_now}
use Rattle.sip_days.proofs.hearing.tell_call.Goals as goal

pub returns-then-is_some : goal.returns-then-is_some
returns-then-is_some c =
    answered_before c.args.call.now c.args.bye.now c.args.out.now c.ended_of-ending.result (sym c.is_some.ensures ∙ c.if-is_some.true)
    c.ended_of-ending.ensures

pub returns : goal.returns
returns c =
    answered_now c.args.call.now c.args.bye.now c.args.out.now c.in_ok-answer.answer c.ended_of-ending.result
    (sym c.is_some.ensures ∙ c.if-is_some.false) c.in_ok-answer.ensures c.ended_of-ending.ensures
