use Rattle.std.proofs.Common.{◌≤◌, ◌⊎◌, ℕ, IfOk, OnOk, subst}
use Rattle.sip_engine_request.specs.Next.{IsNext}
use Rattle.sip_engine_request.specs.Timers.{IsFiredFirst}
use Rattle.sip_engine_request.specs.fork.Firing.{KeepsOrder}
use Rattle.sip_model.specs.steps_model.Step.{Passing, IsDeadline, IsResend, moment_of}
use Rattle.sip_engine.specs.Engine.{Engine}
use Rattle.sip_engine.proofs.FirstOf.{first_if, queued_if}
use Rattle.sip_engine.proofs.Leading.{led_by}
use Rattle.sip_engine.proofs.engine.Engine.fire.Goals as goal

pub invariant_of-self : goal.invariant_of-self
invariant_of-self g c =
    led_by c.self.inside.judge c.self.inside.proxy.state c.fire.new.proxy.state (Passing c.args.at) c.fire.result c.self.invariant c.fire.ensures.step
    c.fire.ensures.unchanged

pub returns-clause-happens : goal.returns-clause-happens
returns-clause-happens g c =
    subst
    (λ (e : Engine). (due : ℕ) → IsNext e.state.requests due → due ≤ moment_of e.state c.args.at
    → IfOk c.fire.result (λ out. IsDeadline e.server e.state c.args.at out c.fire.new.proxy.state ⊎ IsResend e.server e.state c.args.at out c.fire.new.proxy.state))
    c.self.view_is c.fire.ensures.happens

pub returns-clause-in_order : goal.returns-clause-in_order
returns-clause-in_order g c = λ due next le.
    let fired : (due : ℕ) → IsNext c.args.self.now.state.requests due → due ≤ moment_of c.args.self.now.state c.args.at
    → IfOk c.fire.result (λ out. IsFiredFirst c.args.self.now.server c.args.self.now.timers c.args.self.now.state c.args.at out c.fire.new.proxy.state) =
    subst
    (λ (e : Engine). (due : ℕ) → IsNext e.state.requests due → due ≤ moment_of e.state c.args.at
    → IfOk c.fire.result (λ out. IsFiredFirst e.server e.timers e.state c.args.at out c.fire.new.proxy.state)) c.self.view_is
    c.fire.ensures.in_order in
    first_if c.args.self.now.server c.args.self.now.state c.fire.new.proxy.state c.args.at c.args.self.now.timers c.fire.result (fired due next le)

pub returns-clause-queue : goal.returns-clause-queue
returns-clause-queue g c =
    queued_if c.args.self.now.timers c.fire.new.proxy.timers c.fire.new.proxy.state.requests c.fire.result
    (subst (λ (e : Engine). OnOk c.fire.result (KeepsOrder e.timers c.fire.new.proxy.timers c.fire.new.proxy.state.requests)) c.self.view_is c.fire.ensures.queue)
