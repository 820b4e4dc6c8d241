use Rattle.std.proofs.Common.{◌≤◌, ◌⊎◌, ℕ, subst, sym}
use Rattle.sip_model.specs.steps_model.Step.{Passing, IsDeadline, IsResend, IsStep, moment_of}
use Rattle.sip_verdict.specs.state.declared.server.Server.{Server}
use Rattle.sip_engine.proofs.Leading.{first_for, happens_for, passes_for}
use Rattle.sip_engine_request.specs.Timers.{IsFiredFirst}
use Rattle.sip_engine.proofs.stepping.fire.Goals as goal

pub fire-requires-clause-none_before : goal.fire-requires-clause-none_before
fire-requires-clause-none_before g c = c.reached_states_are_sound.ensures.none_before c.args.judge.now c.args.proxy.now.state c.requires

pub fire-requires-clause-none_again : goal.fire-requires-clause-none_again
fire-requires-clause-none_again g c = c.reached_states_are_sound.ensures.none_again c.args.judge.now c.args.proxy.now.state c.requires

pub returns-clause-step : goal.returns-clause-step
returns-clause-step g c =
    let old = c.args.proxy.now.state in
    passes_for c.args.judge.now old c.fire.new.proxy.state c.args.at c.in_ok-out.out
    (subst (λ (s : Server). IsStep s old (Passing (moment_of old c.args.at)) c.in_ok-out.out c.fire.new.proxy.state) c.server-server.ensures
    (subst (λ (n : ℕ). IsStep c.server-server.result.now old (Passing n) c.in_ok-out.out c.fire.new.proxy.state) c.moment_of-now.ensures.value c.in_ok-out.ensures.step))

pub returns-clause-at_first : goal.returns-clause-at_first
returns-clause-at_first g c = λ due next le. c.in_ok-out.ensures.fired due next (subst (λ (n : ℕ). due ≤ n) (sym c.moment_of-now.ensures.value) le)

pub returns-clause-happens : goal.returns-clause-happens
returns-clause-happens g c = λ due next le.
    let old = c.args.proxy.now.state in
    happens_for c.args.judge.now old c.fire.new.proxy.state c.args.at c.in_ok-out.out
    (subst (λ (s : Server). IsDeadline s old (moment_of old c.args.at) c.in_ok-out.out c.fire.new.proxy.state
    ⊎ IsResend s old (moment_of old c.args.at) c.in_ok-out.out c.fire.new.proxy.state) c.server-server.ensures
    (subst (λ (n : ℕ). IsDeadline c.server-server.result.now old n c.in_ok-out.out c.fire.new.proxy.state
    ⊎ IsResend c.server-server.result.now old n c.in_ok-out.out c.fire.new.proxy.state) c.moment_of-now.ensures.value
    (c.in_ok-out.ensures.happens due next (subst (λ (n : ℕ). due ≤ n) (sym c.moment_of-now.ensures.value) le))))

pub returns-clause-in_order : goal.returns-clause-in_order
returns-clause-in_order g c = λ due next le.
    let old = c.args.proxy.now.state in
    first_for c.args.judge.now old c.fire.new.proxy.state c.args.at c.in_ok-out.out c.args.proxy.now.timers
    (subst (λ (s : Server). IsFiredFirst s c.args.proxy.now.timers old (moment_of old c.args.at) c.in_ok-out.out c.fire.new.proxy.state) c.server-server.ensures
    (subst (λ (n : ℕ). IsFiredFirst c.server-server.result.now c.args.proxy.now.timers old n c.in_ok-out.out c.fire.new.proxy.state) c.moment_of-now.ensures.value
    (c.in_ok-out.ensures.in_order due next (subst (λ (n : ℕ). due ≤ n) (sym c.moment_of-now.ensures.value) le))))
