use Rattle.std.proofs.Common.{refl, subst}
use Rattle.sip_verdict.specs.Incoming.{Is}
use Rattle.sip_verdict.specs.declared.incoming.Incoming.{Incoming}
use Rattle.sip_engine_request.specs.forwarding.Arrivals.{arrival_of}
use Rattle.sip_verdict.specs.verdict_model.Verdict as Definition
use Rattle.sip_engine.proofs.Taken.{dropped_as}
use Rattle.sip_engine.proofs.datagram.take_message.Goals as goal

pub returns-in-Dropped-clause-does : goal.returns-in-Dropped-clause-does
returns-in-Dropped-clause-does g c =
    dropped_as c.args.judge.now c.args.arrival c.args.proxy.now.state c.take_dropped.new.proxy.state c.args.message.now
    (Definition.message_verdict c.args.judge.now c.args.proxy.now.state (arrival_of c.args.arrival) c.args.message.now c.args.short) c.take_dropped.result
    (subst (λ (i : Incoming). Is c.args.judge.now.config.own c.args.message.now c.args.short i) c.in-Dropped.is c.in_ok-incoming.ensures c.args.judge.now
    c.args.proxy.now.state (arrival_of c.args.arrival) refl)
    (c.take_dropped.ensures.drops c.args.judge.now c.args.message.now)
