use Rattle.sipd_reload.proofs.CourseSteps.{offered_held}
use Rattle.sipd_reload.proofs.laws.offered_bytes_were_held.Goals as goal

pub returns : goal.returns
returns c = offered_held
