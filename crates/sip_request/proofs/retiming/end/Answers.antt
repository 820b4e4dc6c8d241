use Rattle.std.proofs.Common.{[], refl}
use Rattle.sip_request.proofs.Walking.{held_side, held_behind, Moves-pair}
use Rattle.sip_request.proofs.Setting.{both_stopped}
use Rattle.sip_request.proofs.retiming.end.Goals as goal

pub stop_part-requires : goal.stop_part-requires
stop_part-requires g c = held_side _ _ _ _ (c.side_part.ensures.names c.args.side) c.requires.held

pub stop_left-requires-clause-held : goal.stop_left-requires-clause-held
stop_left-requires-clause-held g c = held_behind _ _ _ _ _ _ (c.side_part.ensures.names c.args.side) c.requires.held c.stop_part.ensures.moves

pub returns-clause-moves : goal.returns-clause-moves
returns-clause-moves g c = Moves-pair _ _ _ _ _ _ _ [] [] (c.side_part.ensures.names c.args.side) refl c.stop_part.ensures.moves c.stop_left.ensures.moves

pub returns-clause-sets : goal.returns-clause-sets
returns-clause-sets g c = both_stopped _ _ _ [] c.stop_part.ensures.sets c.stop_left.ensures.sets
