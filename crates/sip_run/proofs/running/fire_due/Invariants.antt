use Rattle.std.proofs.Common.{◌≡◌, [], Some}
use Rattle.sip_engine.specs.model.Ends.{steps_left}
use Rattle.sip_run.specs.Due.{standing_of}
use Rattle.sip_run.specs.Runs.{Goes}
use Rattle.sip_run.proofs.running.fire_due.Given as goal

abbrev pub invariant-loop-out : goal.invariant-loop-out
invariant-loop-out g l = (l.engine.server ≡ l.initial.engine.server) × Goes l.initial.engine.server (standing_of l.initial.engine) (standing_of l.engine) [] (Some l.at)
    l.initial.steps l.steps

abbrev pub decreases-loop-out : goal.decreases-loop-out
decreases-loop-out g l = steps_left l.at l.engine.state
