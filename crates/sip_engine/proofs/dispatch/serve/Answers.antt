use Rattle.std.proofs.Common.{subst}
use Rattle.sip_verdict.specs.Verdict.{Is}
use Rattle.sip_verdict.specs.declared.verdict.Verdict.{Verdict}
use Rattle.sip_verdict.specs.verdict_model.Verdict as Definition
use Rattle.sip_engine.proofs.Taken.{dropped_as}
use Rattle.sip_engine.proofs.dispatch.serve.Goals as goal

pub returns-in-Dropped-clause-does : goal.returns-in-Dropped-clause-does
returns-in-Dropped-clause-does g c = λ v is.
    dropped_as c.args.configured.now.server.now c.args.request.received.now.arrival c.args.proxy.now.state c.take_dropped.new.proxy.state
    c.args.request.received.now.message.now v
    c.take_dropped.result
    (subst (λ (d : Verdict). Is c.args.configured.now.server.now c.args.proxy.now.state.bindings c.args.request.received.now.arrival.now
    (Definition.found_for_cancel c.args.proxy.now.state c.args.request.key c.args.request.received.now.arrival.from) v d) c.in-Dropped.is is)
    (c.take_dropped.ensures.drops c.args.configured.now.server.now c.args.request.received.now.message.now)
