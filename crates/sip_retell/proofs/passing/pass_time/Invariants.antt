use Rattle.std.proofs.Common.{◌≡◌, [], Some}
use Rattle.sip_model.specs.Ends.{steps_left}
use Rattle.sip_resume.specs.run.Due.{standing_of}
use Rattle.sip_retell.specs.Retells.{RunsTold}
use Rattle.sip_retell.proofs.passing.pass_time.Given as goal

abbrev pub invariant-loop-out : goal.invariant-loop-out
invariant-loop-out g l =
    (l.engine.server ≡ l.initial.engine.server)
    × RunsTold g.L.Listener.hears l.initial.engine.server (standing_of l.initial.engine) (standing_of l.engine) [] (Some l.at) l.initial.listener
    l.listener
    × (l.engine.secrets ≡ l.initial.engine.secrets)

abbrev pub decreases-loop-out : goal.decreases-loop-out
decreases-loop-out g l = steps_left l.at l.engine.state
