use Rattle.sip_timers.proofs.Placing.{AreOrdered-placed, AreOrdered-without}
use Rattle.sip_timers.proofs.laws.earlier_fires_first.Goals as goal

pub returns-clause-set : goal.returns-clause-set
returns-clause-set c = AreOrdered-placed

pub returns-clause-cancelled : goal.returns-clause-cancelled
returns-clause-cancelled c = AreOrdered-without
