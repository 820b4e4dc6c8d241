use Rattle.sip_timers.proofs.Placing.{count-placed}
use Rattle.sip_timers.proofs.laws.timer_stands.Goals as goal

pub returns : goal.returns
returns c = count-placed
