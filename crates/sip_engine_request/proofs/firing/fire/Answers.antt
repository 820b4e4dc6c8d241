use Rattle.std.proofs.Common.{◌≡◌, ◌≤◌, ℕ, inl, IfOk, subst, arith}
use Rattle.sip_event.specs.declared.event.StepOut.{StepOut}
use Rattle.sip_proxy.specs.steps_model.Step.{moment_of}
use Rattle.sip_engine_request.proofs.Moments.{first_is_next, from_then, no_earlier, none_again_before, none_before, one_next}
use Rattle.sip_engine_request.proofs.Results.{first_happens, first_in_order, first_step, no_earlier_than}
use Rattle.sip_engine_request.proofs.Steps.{quiet_done, time_done}
use Rattle.sip_engine_request.proofs.firing.fire.Goals as goal

pub fire_first-requires-clause-later : goal.fire_first-requires-clause-later
fire_first-requires-clause-later g c =
    no_earlier c.args.proxy.now.state.requests c.args.proxy.now.state.moment c.in-Some.first.due c.requires.none_before c.requires.none_again
    (first_is_next c.args.proxy.now.state.requests c.in-Some.first c.in-Some.ensures.first)

pub returns-in-Some-clause-step : goal.returns-in-Some-clause-step
returns-in-Some-clause-step g c =
    first_step c.args.configured.now.server.now c.args.proxy.now.state c.fire_first.new.proxy.state c.args.proxy.now.timers c.in-Some.first.due c.args.now
    c.fire_first.result
    c.in-Some.ensures.due c.fire_first.ensures.step

pub returns-in-Some-clause-waited : goal.returns-in-Some-clause-waited
returns-in-Some-clause-waited g c = λ none again.
    absurd
    (from_then c.args.proxy.now.state.requests c.in-Some.first.due c.args.now (first_is_next c.args.proxy.now.state.requests c.in-Some.first c.in-Some.ensures.first)
    c.in-Some.ensures.due none again)

pub returns-in-Some-clause-never_refused : goal.returns-in-Some-clause-never_refused
returns-in-Some-clause-never_refused g c = λ none again.
    absurd
    (from_then c.args.proxy.now.state.requests c.in-Some.first.due c.args.now (first_is_next c.args.proxy.now.state.requests c.in-Some.first c.in-Some.ensures.first)
    c.in-Some.ensures.due none again)

pub returns-in-Some-clause-happens : goal.returns-in-Some-clause-happens
returns-in-Some-clause-happens g c = λ due next le.
    first_happens c.args.configured.now.server.now c.args.proxy.now.state c.fire_first.new.proxy.state c.args.proxy.now.timers c.in-Some.first.due c.args.now
    c.fire_first.result
    c.in-Some.ensures.due
    c.fire_first.ensures.step

pub returns-in-Some-clause-in_order : goal.returns-in-Some-clause-in_order
returns-in-Some-clause-in_order g c = λ due next le.
    first_in_order c.args.configured.now.server.now c.args.proxy.now.state c.fire_first.new.proxy.state c.args.proxy.now.timers c.in-Some.first.due c.args.now
    c.fire_first.result
    c.in-Some.ensures.due
    c.fire_first.ensures.step

pub returns-in-Some-clause-fired : goal.returns-in-Some-clause-fired
returns-in-Some-clause-fired g c = λ due next le.
    subst (λ (d : ℕ). IfOk c.fire_first.result (λ (out : StepOut). out.at ≡ d))
    (one_next c.args.proxy.now.state.requests c.in-Some.first.due due (first_is_next c.args.proxy.now.state.requests c.in-Some.first c.in-Some.ensures.first) next)
    c.fire_first.ensures.at_first

pub returns-in-Some-clause-no_earlier : goal.returns-in-Some-clause-no_earlier
returns-in-Some-clause-no_earlier g c =
    no_earlier_than c.args.proxy.now.state.moment c.in-Some.first.due c.fire_first.result
    (no_earlier c.args.proxy.now.state.requests c.args.proxy.now.state.moment c.in-Some.first.due c.requires.none_before c.requires.none_again
    (first_is_next c.args.proxy.now.state.requests c.in-Some.first c.in-Some.ensures.first)) c.fire_first.ensures.at_first

pub pass-requires : goal.pass-requires
pass-requires g c =
    record {
      later = c.requires.later;
      small = c.requires.small;
      none_before = none_before c.args.proxy.now.state.requests c.args.now c.in_default.ensures.none;
      none_again = none_again_before c.args.proxy.now.state.requests c.args.now c.in_default.ensures.none_again;
    }

pub returns-clause-step : goal.returns-clause-step
returns-clause-step g c =
    let by : c.args.now ≤ moment_of c.args.proxy.now.state c.args.now = omega arith in
    inl
    (quiet_done c.args.configured.now.server.now c.args.now c.args.now c.args.proxy.now.state c.pass.result c.pass.new.proxy.state c.pass.ensures.leaves c.requires.later
    by
    (none_before c.args.proxy.now.state.requests c.args.now c.in_default.ensures.none)
    (none_again_before c.args.proxy.now.state.requests c.args.now c.in_default.ensures.none_again))

pub returns-clause-waited : goal.returns-clause-waited
returns-clause-waited g c = λ none again.
    time_done c.args.configured.now.server.now c.args.now c.args.proxy.now.state c.pass.result c.pass.new.proxy.state c.pass.ensures.leaves c.requires.later none again
    (none_before c.args.proxy.now.state.requests c.args.now none) (none_again_before c.args.proxy.now.state.requests c.args.now again)

pub returns-clause-fired : goal.returns-clause-fired
returns-clause-fired g c = λ due next le. absurd (from_then c.args.proxy.now.state.requests due c.args.now next le c.in_default.ensures.none
    c.in_default.ensures.none_again)

pub returns-clause-happens : goal.returns-clause-happens
returns-clause-happens g c = λ due next le. absurd (from_then c.args.proxy.now.state.requests due c.args.now next le c.in_default.ensures.none
    c.in_default.ensures.none_again)

pub returns-clause-in_order : goal.returns-clause-in_order
returns-clause-in_order g c = λ due next le. absurd (from_then c.args.proxy.now.state.requests due c.args.now next le c.in_default.ensures.none
    c.in_default.ensures.none_again)
