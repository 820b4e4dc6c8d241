use Rattle.std.proofs.Common.{[]}
use Rattle.sip_request.proofs.Moving.{Moves-three_back}
use Rattle.sip_request.proofs.Setting.{part_set}
use Rattle.sip_request.proofs.part.set_part.Goals as goal

pub returns-clause-moves : goal.returns-clause-moves
returns-clause-moves g c = Moves-three_back _ _ _ _ [] [] [] _ _ _ c.set_slot-call.ensures.moves c.set_slot-last.ensures.moves c.set_slot-again.ensures.moves

pub returns-clause-sets : goal.returns-clause-sets
returns-clause-sets g c =
    part_set _ _ _ _ (record { again = c.set_slot-again.result; last = c.set_slot-last.result; call = c.set_slot-call.result }) c.args.part.now
    c.set_slot-call.ensures.sets c.set_slot-last.ensures.sets c.set_slot-again.ensures.sets
