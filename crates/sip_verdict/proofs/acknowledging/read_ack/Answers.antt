use Rattle.sip_validate.specs.Refusal.{refusal_of}
use Rattle.sip_verdict.proofs.Checking.{none_applies, told_applies}
use Rattle.sip_verdict.proofs.Deciding.{ack_passes, ack_dropped}
use Rattle.sip_verdict.proofs.acknowledging.read_ack.Goals as goal

pub returns-in-None-clause-verdict : goal.returns-in-None-clause-verdict
returns-in-None-clause-verdict g c =
    ack_passes c.ack_within.result c.args.judge.now c.args.dialogs.now.dialogs c.args.request.now.moment c.args.request.now.message.now c.args.request.now.short
    (none_applies (refusal_of c.args.judge.now.config.own c.args.request.now.message.now c.args.request.now.short) c.in_ok-refused.refused c.in-None.is
    c.in_ok-refused.ensures) c.ack_within.ensures.verdict

pub returns-in-Some-Status-clause-verdict : goal.returns-in-Some-Status-clause-verdict
returns-in-Some-Status-clause-verdict g c =
    λ state same rows named.
    ack_dropped c.args.judge.now c.args.request.now.moment c.args.request.now.message.now c.args.request.now.short c.in-Some-Status._status c.in-Some-Status._items
    (told_applies (refusal_of c.args.judge.now.config.own c.args.request.now.message.now c.args.request.now.short) c.in_ok-refused.refused c.in-Some-Status.field-0
    c.in-Some-Status._status c.in-Some-Status._items c.in-Some-Status.is c.in-Some-Status.field-0-is c.in_ok-refused.ensures) state
