use Rattle.sip_timers.proofs.Placing.{count_cancelled}
use Rattle.sip_timers.proofs.laws.timer_taken_out.Goals as goal

pub returns : goal.returns
returns c = λ p t ts once stands. count_cancelled ts t once stands p
