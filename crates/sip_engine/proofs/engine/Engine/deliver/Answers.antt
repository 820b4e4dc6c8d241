use Rattle.std.proofs.Common.{OnOk, subst}
use Rattle.sip_event.specs.declared.event.Event.TheVariants.{Datagram}
use Rattle.sip_model.specs.steps_model.Step.{Given}
use Rattle.sip_engine_request.specs.fork.Firing.{KeepsOrder}
use Rattle.sip_engine.specs.Engine.{Engine}
use Rattle.sip_engine.proofs.FirstOf.{queued_if}
use Rattle.sip_engine.proofs.Leading.{led_by}
use Rattle.sip_engine.proofs.engine.Engine.deliver.Goals as goal

pub invariant_of-self : goal.invariant_of-self
invariant_of-self g c =
    led_by c.self.inside.judge c.self.inside.proxy.state c.deliver.new.proxy.state (Given (Datagram c.args.at c.args.word c.args.from c.args.bytes.now)) c.deliver.result
    c.self.invariant c.deliver.ensures.step c.deliver.ensures.unchanged

pub returns-clause-queue : goal.returns-clause-queue
returns-clause-queue g c =
    queued_if c.args.self.now.timers c.deliver.new.proxy.timers c.deliver.new.proxy.state.requests c.deliver.result
    (subst (λ (e : Engine). OnOk c.deliver.result (KeepsOrder e.timers c.deliver.new.proxy.timers c.deliver.new.proxy.state.requests)) c.self.view_is
    c.deliver.ensures.queue)
