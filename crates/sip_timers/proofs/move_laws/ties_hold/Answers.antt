use Rattle.sip_timers.proofs.Moving.{IsTied-held, IsTied-moved}
use Rattle.sip_timers.proofs.move_laws.ties_hold.Goals as goal

pub returns-clause-held : goal.returns-clause-held
returns-clause-held c = IsTied-held

pub returns-clause-moved : goal.returns-clause-moved
returns-clause-moved c = IsTied-moved
