use Rattle.sip_timers.proofs.Moving.{IsHeld-first, IsHeld-rest}
use Rattle.sip_timers.proofs.move_laws.others_stand.Goals as goal

pub returns-clause-first : goal.returns-clause-first
returns-clause-first c = IsHeld-first

pub returns-clause-rest : goal.returns-clause-rest
returns-clause-rest c = IsHeld-rest
