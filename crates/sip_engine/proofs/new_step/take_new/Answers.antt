use Rattle.std.proofs.Common.{IfOk, sym, subst}
use Rattle.sip_verdict.specs.Verdict.{Is}
use Rattle.sip_engine_request.specs.forwarding.Arrivals.{arrival_of}
use Rattle.sip_verdict.specs.state.declared.server.Server.{Server}
use Rattle.sip_verdict.specs.verdict_model.Verdict as Definition
use Rattle.sip_engine_request.specs.Steps.{Takes}
use Rattle.sip_engine.specs.Delivery.{IsServed}
use Rattle.sip_engine.proofs.Taken.{new_told, served}
use Rattle.sip_engine.proofs.new_step.take_new.Goals as goal

pub serve-requires-clause-served : goal.serve-requires-clause-served
serve-requires-clause-served g c =
    subst (λ (s : Server). IsServed s c.verdict.new.self.state c.args.received.now.arrival c.args.key c.in-Ok.decided) (sym c.server-server.ensures)
    (served c.args.judge.now c.args.received.now.arrival c.args.proxy.now.state c.verdict.new.self.state c.args.proxy.now.state c.args.key c.args.received.now.message.now
    c.args.received.now.short c.args.received.now.method.now c.in-Ok.decided
    c.verdict.ensures.unchanged c.in-Ok.ensures.verdict
    (c.new_requests_need_room.ensures c.args.judge.now c.args.proxy.now.state (arrival_of c.args.received.now.arrival) c.args.received.now.message.now
    c.args.received.now.short c.args.received.now.method.now c.args.key)
    (c.new_verdict_answers_finally.ensures c.args.judge.now c.args.proxy.now.state (arrival_of c.args.received.now.arrival) c.args.received.now.message.now
    c.args.received.now.short c.args.received.now.method.now c.args.key))

pub returns-in-Ok-clause-does : goal.returns-in-Ok-clause-does
returns-in-Ok-clause-does g c =
    new_told c.args.judge.now c.args.received.now.arrival c.args.proxy.now.state c.verdict.new.self.state c.serve.new.proxy.state c.args.key
    c.args.received.now.message.now c.args.received.now.short c.args.received.now.method.now c.in-Ok.decided
    c.serve.result c.verdict.ensures.unchanged c.in-Ok.ensures.verdict
    (subst
    (λ (s : Server).
    IfOk c.serve.result (λ out. (v : Definition.Verdict)
    → Is s c.verdict.new.self.state.bindings c.args.received.now.arrival.now (Definition.found_for_cancel c.verdict.new.self.state c.args.key
    c.args.received.now.arrival.from) v c.in-Ok.decided
    → Takes s c.verdict.new.self.state c.args.received.now.arrival c.args.received.now.message.now v out c.serve.new.proxy.state))
    c.server-server.ensures c.serve.ensures.does)
