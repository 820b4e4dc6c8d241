use Rattle.sip_guard.proofs.Rating.{later_alike}
use Rattle.sip_guard.proofs.laws.idle_stays_idle.Goals as goal

pub returns : goal.returns
returns c = later_alike
