use Rattle.std.proofs.Common.{IfOk, sym, subst}
use Rattle.sip_verdict.specs.verdict_model.Verdict as Definition
use Rattle.sip_verdict.specs.state.declared.server.Server.{Server}
use Rattle.sip_engine_request.specs.Steps.{Takes}
use Rattle.sip_engine.proofs.Taken.{stopped, went_on}
use Rattle.sip_engine.proofs.copy_or_ack.take_ack.Goals as goal

pub returns-in-Some-clause-does : goal.returns-in-Some-clause-does
returns-in-Some-clause-does g c =
    went_on c.args.judge.now c.args.ack.now.arrival c.args.proxy.now.state c.send_ack.new.proxy.state c.args.ack.now.message.now
    (Definition.ack_verdict c.args.judge.now c.args.proxy.now.state c.args.ack.now.arrival.now c.args.ack.now.message.now c.args.ack.now.short) c.in_ok-decided.decided
    c.in-Some.address c.in-Some.id c.send_ack.result
    (sym c.in-Some.ensures) c.in_ok-decided.ensures
    (subst (λ (s : Server). IfOk c.send_ack.result (λ out. Takes s c.args.proxy.now.state c.args.ack.now.arrival c.args.ack.now.message.now
    (Definition.AckOn c.in-Some.address c.in-Some.id) out c.send_ack.new.proxy.state))
    c.server-server.ensures c.send_ack.ensures.does)

pub returns-in-None-clause-does : goal.returns-in-None-clause-does
returns-in-None-clause-does g c =
    stopped c.args.judge.now c.args.ack.now.arrival c.args.proxy.now.state c.take_dropped.new.proxy.state c.args.ack.now.message.now
    (Definition.ack_verdict c.args.judge.now c.args.proxy.now.state c.args.ack.now.arrival.now c.args.ack.now.message.now c.args.ack.now.short) c.in_ok-decided.decided
    c.take_dropped.result (sym c.in-None.ensures)
    (c.acks_are_dropped_or_go_on.ensures c.args.judge.now c.args.proxy.now.state c.args.ack.now.arrival.now c.args.ack.now.message.now c.args.ack.now.short)
    c.in_ok-decided.ensures
    (c.take_dropped.ensures.drops c.args.judge.now c.args.ack.now.message.now)
