use Rattle.sip_run.proofs.Going.{goes_taking}
use Rattle.sip_run.specs.Due.{standing_of}
use Rattle.sip_run.proofs.running.take_in_turn.Goals as goal

pub returns-clause-taken : goal.returns-clause-taken
returns-clause-taken g c =
    goes_taking c.args.engine.now.server c.fire_due.new.engine.server (standing_of c.args.engine.now) (standing_of c.fire_due.new.engine)
    (standing_of c.take_event.new.engine) c.event_moment-at.result c.args.event.now c.in_ok-out.out
    c.args.steps.now c.fire_due.new.steps c.push.new.self c.fire_due.ensures.server c.event_moment-at.ensures c.in_ok-fire_due.ensures.fired
    (record { none_due = rw c.event_moment-at.ensures at c.in_ok-fire_due.ensures.none_due; not_refused = c.in_ok-out.ensures.not_refused }) c.in_ok-out.ensures.step
    c.in_ok-out.ensures.queue c.in_ok-push.ensures.ok
