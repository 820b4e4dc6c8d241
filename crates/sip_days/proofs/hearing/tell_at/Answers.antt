use Rattle.std.proofs.lemmas.Result.{on_ok_weaker}
use Rattle.sip_days.specs.Hearing.{hears_with}
use Rattle.sip_days.proofs.Opened.{set_as, set_none}
use Rattle.sip_days.proofs.hearing.tell_at.Goals as goal

pub returns-then-place-calls : goal.returns-then-place-calls
returns-then-place-calls c =
    on_ok_weaker c.tell_call.result
    (λ h. set_as (hears_with c.args.bye.now c.args.out.now) c.args.calls.now c.args.place c.tell_call.new.call _ c.if-place-calls.true h)
    c.tell_call.ensures

pub returns : goal.returns
returns c = set_none (hears_with c.args.bye.now c.args.out.now) c.args.calls.now c.args.place c.if-place-calls.false
