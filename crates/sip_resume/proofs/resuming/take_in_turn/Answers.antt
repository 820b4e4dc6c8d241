use Rattle.std.proofs.Common.{ap}
use Rattle.std.proofs.lemmas.Result.{err_from_is_err_and}
use Rattle.sip_run.specs.engine.Engine.{Engine}
use Rattle.sip_run.specs.Due.{standing_of}
use Rattle.sip_resume.proofs.Refused.{due_stops, own_stops, own_unshown}
use Rattle.sip_resume.proofs.Running.{takes_own, unshown_own}
use Rattle.sip_resume.proofs.resuming.take_in_turn.Goals as goal

pub returns-clause-taken : goal.returns-clause-taken
returns-clause-taken g c =
    takes_own c.args.engine.now.server c.fire_due.new.engine.server (standing_of c.args.engine.now) (standing_of c.fire_due.new.engine)
    (standing_of c.take_event.new.engine) c.event_moment-at.result c.args.event.now c.in_ok-out.out
    (g.S.StepSink.shown c.args.sink.now) (g.S.StepSink.shown c.fire_due.new.sink) (g.S.StepSink.shown c.show.new.self) c.fire_due.ensures.server c.event_moment-at.ensures
    c.in_ok-fire_due.ensures.fired c.in_ok-fire_due.ensures.none_due
    c.in_ok-out.ensures.step c.in_ok-out.ensures.queue c.in_ok-show.ensures.shown

pub returns-in_err-fire_due-clause-stopped : goal.returns-in_err-fire_due-clause-stopped
returns-in_err-fire_due-clause-stopped g c =
    let p = err_from_is_err_and c.from_residual.result c.from_residual.ensures.1 in
    rw (p.1, p.2) (due_stops c.args.engine.now.server (standing_of c.args.engine.now) (standing_of c.fire_due.new.engine) c.event_moment-at.result c.args.event.now
    (g.S.StepSink.shown c.args.sink.now) (g.S.StepSink.shown c.fire_due.new.sink)
    c.in_err-fire_due.field-0.0 c.event_moment-at.ensures c.in_err-fire_due.ensures.stopped)

pub returns-in_err-out-clause-stopped : goal.returns-in_err-out-clause-stopped
returns-in_err-out-clause-stopped g c =
    let p = err_from_is_err_and c.from_residual-in_err-out.result c.from_residual-in_err-out.ensures.1 in
    rw (p.1, p.2) (own_stops c.args.engine.now.server (standing_of c.args.engine.now) (standing_of c.fire_due.new.engine) (standing_of c.take_event.new.engine)
    c.event_moment-at.result c.args.event.now (g.S.StepSink.shown c.args.sink.now)
    (g.S.StepSink.shown c.fire_due.new.sink) c.in_err-out.field-0.0 (ap (λ (e : Engine). standing_of e) c.in_err-out.ensures.unchanged) c.event_moment-at.ensures
    c.in_ok-fire_due.ensures.fired c.in_err-out.ensures.refused)

pub returns-in_err-show-clause-stopped : goal.returns-in_err-show-clause-stopped
returns-in_err-show-clause-stopped g c =
    let p = err_from_is_err_and c.from_residual-in_err-show.result c.from_residual-in_err-show.ensures.1 in
    rw (p.1, p.2) (own_unshown c.args.engine.now.server (standing_of c.args.engine.now) (standing_of c.take_event.new.engine) c.args.event.now
    (g.S.StepSink.shown c.args.sink.now) (g.S.StepSink.shown c.show.new.self) c.in_err-show.field-0.0
    (unshown_own c.args.engine.now.server c.fire_due.new.engine.server (standing_of c.args.engine.now) (standing_of c.fire_due.new.engine)
    (standing_of c.take_event.new.engine) c.event_moment-at.result c.args.event.now c.in_ok-out.out (g.S.StepSink.shown c.args.sink.now)
    (g.S.StepSink.shown c.fire_due.new.sink) (g.S.StepSink.shown c.show.new.self) c.fire_due.ensures.server c.event_moment-at.ensures c.in_ok-fire_due.ensures.fired
    c.in_ok-fire_due.ensures.none_due c.in_ok-out.ensures.step c.in_ok-out.ensures.queue c.in_err-show.ensures.front))
