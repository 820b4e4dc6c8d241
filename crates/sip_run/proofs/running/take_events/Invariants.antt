use Rattle.std.proofs.Common.{◌≡◌, None, take}
use Rattle.sip_run.specs.Due.{standing_of}
use Rattle.sip_run.specs.Runs.{Goes}
use Rattle.sip_run.proofs.running.take_events.Given as goal

abbrev pub invariant-loop-event : goal.invariant-loop-event
invariant-loop-event g l =
    (l.engine.server ≡ l.initial.engine.server)
    × Goes l.initial.engine.server (standing_of l.initial.engine) (standing_of l.engine) (take l.event-index l.events) None l.initial.steps l.steps
