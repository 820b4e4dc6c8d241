use Rattle.sip_timers.proofs.Moving.{Moves-none, Moves-both, Moves-passing}
use Rattle.sip_timers.proofs.move_laws.moves_join.Goals as goal

pub returns-clause-none : goal.returns-clause-none
returns-clause-none c = Moves-none

pub returns-clause-both : goal.returns-clause-both
returns-clause-both c = Moves-both

pub returns-clause-passing : goal.returns-clause-passing
returns-clause-passing c = Moves-passing
