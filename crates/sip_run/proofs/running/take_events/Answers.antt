use Rattle.std.proofs.Common.{refl, None, ◌∙◌}
use Rattle.std.proofs.lemmas.Result.{err_from_is_err_and}
use Rattle.sip_run.proofs.Going.{goes_nothing, goes_more}
use Rattle.sip_run.proofs.Stopping.{stops_at}
use Rattle.sip_run.specs.Due.{standing_of}
use Rattle.sip_run.proofs.running.take_events.Goals as goal

pub loop-event-init : goal.loop-event-init
loop-event-init g c = (refl, goes_nothing c.args.engine.now.server (standing_of c.args.engine.now) None c.args.steps.now)

pub loop-event-preserved : goal.loop-event-preserved
loop-event-preserved g c = (
  c.take_in_turn.ensures.server ∙ c.loop-event.invariant.0,
  goes_more c.runs_join.ensures c.args.engine.now.server c.loop-event.engine.server (standing_of c.args.engine.now) (standing_of c.loop-event.engine)
      (standing_of c.take_in_turn.new.engine) c.args.events.now c.loop-event.event-index c.event-item.result
      c.args.steps.now c.loop-event.steps c.take_in_turn.new.steps c.loop-event-test.true c.event-item.is c.loop-event.invariant.0 c.loop-event.invariant.1
      c.in_ok-take_in_turn.ensures.taken,
)

pub returns-in_err-take_in_turn-clause-stopped : goal.returns-in_err-take_in_turn-clause-stopped
returns-in_err-take_in_turn-clause-stopped g c =
    let p = err_from_is_err_and c.from_residual.result c.from_residual.ensures.1 in
    rw (p.1, p.2) (stops_at c.runs_join.ensures c.args.engine.now.server c.loop-event.engine.server (standing_of c.args.engine.now) (standing_of c.loop-event.engine)
    c.args.events.now c.loop-event.event-index c.event-item.result
    c.args.steps.now c.loop-event.steps c.take_in_turn.new.steps c.in_err-take_in_turn.field-0.0 c.loop-event-test.true c.event-item.is c.loop-event.invariant.0
    c.loop-event.invariant.1 c.in_err-take_in_turn.ensures.stopped)
