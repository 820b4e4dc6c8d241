use Rattle.std.proofs.Common.{◌≡◌, ◌∙◌, ◌≤◌, ◌+◌, arith, ap, refl, sym, subst, max}
use Rattle.std.proofs.lemmas.Result.{err_from_is_err_and}
use Rattle.sip_model.specs.Ends.{steps_left}
use Rattle.sip_model.specs.TimerOrder.{Standing}
use Rattle.sip_model.specs.state.declared.server.Server.{Server}
use Rattle.sip_run.specs.engine.Engine.{Engine}
use Rattle.sip_run.specs.Due.{standing_of}
use Rattle.sip_loop.specs.Courses.{FiresOne, HappensTo}
use Rattle.sip_loop.proofs.WhatIsDue.{all_more, fewer_further, further_on, further_same, no_memory, to_more}
use Rattle.sip_loop.proofs.due_moments.fire_rest.Goals as goal

pub loop-out-init : goal.loop-out-init
loop-out-init g c = (refl, c.requires.moment, further_same c.args.engine.now.state, λ start first h. h, λ start h. h)

pub loop-out-preserved : goal.loop-out-preserved
loop-out-preserved g c =
    let fires : FiresOne c.args.engine.now.server (standing_of c.loop-out.engine) c.args.at c.in-Some.out (standing_of c.fire_one.new.engine) =
    subst (λ (s : Server). FiresOne s (standing_of c.loop-out.engine) c.args.at c.in-Some.out (standing_of c.fire_one.new.engine)) c.loop-out.invariant.0
    (rw c.in-Some.is at c.in_ok-out.ensures.fired) in
    let then : c.loop-out.engine.state.moment ≡ c.args.at = c.loop-out.invariant.1 in
    let stands : c.fire_one.new.engine.state.moment ≡ c.in-Some.out.at = fires.stands in
    let rises : c.loop-out.engine.state.moment ≤ c.fire_one.new.engine.state.moment = fires.rises in
    let in_time : c.in-Some.out.at ≤ max c.loop-out.engine.state.moment c.args.at = fires.in_time in
    let at : c.in-Some.out.at ≡ c.args.at = omega (arith, then, stands, rises, in_time) in (
      c.fire_one.ensures.server ∙ c.loop-out.invariant.0,
      omega (arith, then, stands, rises, in_time),
      further_on c.args.engine.now.state c.loop-out.engine.state c.fire_one.new.engine.state c.loop-out.invariant.2
          (fewer_further c.loop-out.engine.state c.fire_one.new.engine.state c.args.at c.loop-out.invariant.1 fires.fewer),
      λ start first h. all_more c.args.engine.now.server start (standing_of c.loop-out.engine) (standing_of c.fire_one.new.engine) c.args.at c.in-Some.out first
          c.loop-out.waiting c.wait_for.new.waiting (c.loop-out.invariant.3 start first h) fires at c.in_ok-wait_for.ensures.added,
      λ start h. to_more c.args.engine.now.server start (standing_of c.loop-out.engine) (standing_of c.fire_one.new.engine) c.args.at c.in-Some.out
          (c.loop-out.invariant.4 start h) fires at,
    )

pub loop-out-smaller : goal.loop-out-smaller
loop-out-smaller g c =
    let fires : FiresOne c.loop-out.engine.server (standing_of c.loop-out.engine) c.args.at c.in-Some.out (standing_of c.fire_one.new.engine) =
    (rw c.in-Some.is at c.in_ok-out.ensures.fired) in
    let fewer : steps_left c.args.at c.fire_one.new.engine.state + 1 ≤ steps_left c.args.at c.loop-out.engine.state = fires.fewer c.args.at (omega arith) in
    omega (arith, fewer)

pub returns-in_err-out-clause-refused : goal.returns-in_err-out-clause-refused
returns-in_err-out-clause-refused g c =
    let p = err_from_is_err_and c.from_residual.result c.from_residual.ensures.1 in
    rw (p.1, p.2) (no_memory c.args.at c.in_err-out.field-0.0 c.requires.not_refused c.in_err-out.ensures.refused)

pub returns-in_err-out-clause-some : goal.returns-in_err-out-clause-some
returns-in_err-out-clause-some g c =
    let p = err_from_is_err_and c.from_residual.result c.from_residual.ensures.1 in
    rw p.1
    (λ start h. subst (λ (s : Standing). HappensTo c.args.engine.now.server start s c.args.at) (sym (ap (λ (e : Engine). standing_of e) c.in_err-out.ensures.unchanged))
    (c.loop-out.invariant.4 start h))

pub returns-in_err-wait_for-clause-refused : goal.returns-in_err-wait_for-clause-refused
returns-in_err-wait_for-clause-refused g c =
    let p = err_from_is_err_and c.from_residual-in_err-wait_for.result c.from_residual-in_err-wait_for.ensures.1 in
    rw (p.1, p.2) c.in_err-wait_for.ensures.refused

pub returns-in_err-wait_for-clause-some : goal.returns-in_err-wait_for-clause-some
returns-in_err-wait_for-clause-some g c =
    let p = err_from_is_err_and c.from_residual-in_err-wait_for.result c.from_residual-in_err-wait_for.ensures.1 in
    let fires : FiresOne c.args.engine.now.server (standing_of c.loop-out.engine) c.args.at c.in-Some.out (standing_of c.fire_one.new.engine) =
    subst (λ (s : Server). FiresOne s (standing_of c.loop-out.engine) c.args.at c.in-Some.out (standing_of c.fire_one.new.engine)) c.loop-out.invariant.0
    (rw c.in-Some.is at c.in_ok-out.ensures.fired) in
    let then : c.loop-out.engine.state.moment ≡ c.args.at = c.loop-out.invariant.1 in
    let stands : c.fire_one.new.engine.state.moment ≡ c.in-Some.out.at = fires.stands in
    let rises : c.loop-out.engine.state.moment ≤ c.fire_one.new.engine.state.moment = fires.rises in
    let in_time : c.in-Some.out.at ≤ max c.loop-out.engine.state.moment c.args.at = fires.in_time in
    let at : c.in-Some.out.at ≡ c.args.at = omega (arith, then, stands, rises, in_time) in
    rw p.1 (λ start h. to_more c.args.engine.now.server start (standing_of c.loop-out.engine) (standing_of c.fire_one.new.engine) c.args.at c.in-Some.out
    (c.loop-out.invariant.4 start h) fires at)
