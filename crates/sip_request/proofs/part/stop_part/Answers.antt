use Rattle.sip_request.proofs.Moving.{held_call, held_second, held_first, Moves-three_stopped}
use Rattle.std.proofs.Common.{[]}
use Rattle.sip_request.proofs.Setting.{both_stopped}
use Rattle.sip_request.proofs.part.stop_part.Goals as goal

pub stop_slot-requires : goal.stop_slot-requires
stop_slot-requires g c = held_call _ c.args.keys c.args.was.now c.requires

pub stop_slot-requires-2 : goal.stop_slot-requires-2
stop_slot-requires-2 g c = held_second _ _ _ _ _ _ c.requires c.stop_slot.ensures.moves

pub stop_slot-requires-3 : goal.stop_slot-requires-3
stop_slot-requires-3 g c = held_first _ _ _ _ _ _ _ _ c.requires c.stop_slot.ensures.moves c.stop_slot-2.ensures.moves

pub returns-clause-moves : goal.returns-clause-moves
returns-clause-moves g c = Moves-three_stopped _ _ _ _ _ _ _ c.stop_slot.ensures.moves c.stop_slot-2.ensures.moves c.stop_slot-3.ensures.moves

pub returns-clause-sets : goal.returns-clause-sets
returns-clause-sets g c = both_stopped _ _ _ [] (both_stopped _ _ _ [] c.stop_slot.ensures.sets c.stop_slot-2.ensures.sets) c.stop_slot-3.ensures.sets
