use Rattle.std.proofs.Common.{refl, ap, ◌∙◌, Some}
use Rattle.std.proofs.lemmas.Result.{err_from_is_err_and}
use Rattle.sip_run.specs.engine.Engine.{Engine}
use Rattle.sip_run.specs.Due.{standing_of}
use Rattle.sip_resume.proofs.Refused.{firing_stops, firing_unshown}
use Rattle.sip_resume.proofs.Running.{shows_firing, shows_nothing, unshown_firing}
use Rattle.sip_resume.proofs.resuming.fire_due.Goals as goal

pub loop-out-init : goal.loop-out-init
loop-out-init g c = (refl, shows_nothing c.args.engine.now.server (standing_of c.args.engine.now) (Some c.args.at) (g.S.StepSink.shown c.args.sink.now), refl)

pub loop-out-preserved : goal.loop-out-preserved
loop-out-preserved g c = (
  c.fire_next.ensures.server ∙ c.loop-out.invariant.0,
  shows_firing c.args.engine.now.server c.loop-out.engine.server (standing_of c.args.engine.now) (standing_of c.loop-out.engine) (standing_of c.fire_next.new.engine)
      c.args.at c.in-Some.out (g.S.StepSink.shown c.args.sink.now) (g.S.StepSink.shown c.loop-out.sink)
      (g.S.StepSink.shown c.show.new.self) c.loop-out.invariant.0 c.loop-out.invariant.1 (rw c.in-Some.is at c.in_ok-out.ensures.fired) c.in_ok-show.ensures.shown,
  c.fire_next.ensures.secrets ∙ c.loop-out.invariant.2,
)

pub returns-in_err-out-clause-stopped : goal.returns-in_err-out-clause-stopped
returns-in_err-out-clause-stopped g c =
    let p = err_from_is_err_and c.from_residual.result c.from_residual.ensures.1 in
    rw (p.1, p.2) (firing_stops c.args.engine.now.server (standing_of c.args.engine.now) (standing_of c.loop-out.engine) (standing_of c.fire_next.new.engine) c.args.at
    (g.S.StepSink.shown c.args.sink.now) (g.S.StepSink.shown c.loop-out.sink) c.in_err-out.field-0.0
    (ap (λ (e : Engine). standing_of e) c.in_err-out.ensures.unchanged) c.loop-out.invariant.1 c.in_err-out.ensures.refused)

pub returns-in_err-show-clause-stopped : goal.returns-in_err-show-clause-stopped
returns-in_err-show-clause-stopped g c =
    let p = err_from_is_err_and c.from_residual-in_err-show.result c.from_residual-in_err-show.ensures.1 in
    rw (p.1, p.2) (firing_unshown c.args.engine.now.server (standing_of c.args.engine.now) (standing_of c.fire_next.new.engine) c.args.at
    (g.S.StepSink.shown c.args.sink.now) (g.S.StepSink.shown c.show.new.self) c.in_err-show.field-0.0
    (unshown_firing c.args.engine.now.server c.loop-out.engine.server (standing_of c.args.engine.now) (standing_of c.loop-out.engine) (standing_of c.fire_next.new.engine)
    c.args.at c.in-Some.out (g.S.StepSink.shown c.args.sink.now) (g.S.StepSink.shown c.loop-out.sink)
    (g.S.StepSink.shown c.show.new.self) c.loop-out.invariant.0 c.loop-out.invariant.1 (rw c.in-Some.is at c.in_ok-out.ensures.fired) c.in_err-show.ensures.front))
