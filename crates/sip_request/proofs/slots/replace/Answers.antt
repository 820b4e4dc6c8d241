use Rattle.sip_request.proofs.Moving.{Moves-replaced}
use Rattle.sip_request.proofs.slots.replace.Goals as goal

pub returns-clause-moves : goal.returns-clause-moves
returns-clause-moves g c = Moves-replaced _ _ _ _ _ c.stop.ensures.moves c.set.ensures.moves
