use Rattle.std.proofs.Common.{◌≡◌, [], Some}
use Rattle.sip_model.specs.Ends.{steps_left}
use Rattle.sip_resume.specs.run.Due.{standing_of}
use Rattle.sip_replay.specs.Replays.{Plays}
use Rattle.sip_replay.proofs.due_steps.fire_due.Given as goal

abbrev pub invariant-loop-out : goal.invariant-loop-out
invariant-loop-out g l =
    (l.engine.server ≡ l.initial.engine.server)
    × Plays l.initial.engine.server (standing_of l.initial.engine) (standing_of l.engine) [] (Some l.at) (g.W.TellingWriter.contents l.initial.writer)
    (g.W.TellingWriter.contents l.writer)

abbrev pub decreases-loop-out : goal.decreases-loop-out
decreases-loop-out g l = steps_left l.at l.engine.state
