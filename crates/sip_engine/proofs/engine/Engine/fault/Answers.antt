use Rattle.std.proofs.Common.{OnOk, subst}
use Rattle.sip_event.specs.declared.event.Event.TheVariants.{Fault}
use Rattle.sip_model.specs.steps_model.Step.{Given}
use Rattle.sip_engine_request.specs.fork.Firing.{KeepsOrder}
use Rattle.sip_engine.specs.Engine.{Engine}
use Rattle.sip_engine.proofs.FirstOf.{queued_if}
use Rattle.sip_engine.proofs.Leading.{led_by}
use Rattle.sip_engine.proofs.engine.Engine.fault.Goals as goal

pub invariant_of-self : goal.invariant_of-self
invariant_of-self g c =
    led_by c.self.inside.judge c.self.inside.proxy.state c.fault.new.proxy.state (Given (Fault c.args.at c.args.ticket)) c.fault.result c.self.invariant
    c.fault.ensures.step c.fault.ensures.unchanged

pub returns-clause-queue : goal.returns-clause-queue
returns-clause-queue g c =
    queued_if c.args.self.now.timers c.fault.new.proxy.timers c.fault.new.proxy.state.requests c.fault.result
    (subst (λ (e : Engine). OnOk c.fault.result (KeepsOrder e.timers c.fault.new.proxy.timers c.fault.new.proxy.state.requests)) c.self.view_is c.fault.ensures.queue)
