use Rattle.sip_request.proofs.Ending.{side_stopped}
use Rattle.sip_request.proofs.Walking.{held_side}
use Rattle.sip_request.proofs.request.Request.stop_side.Goals as goal

pub stop_part-requires : goal.stop_part-requires
stop_part-requires g c = held_side _ _ _ _ (c.side_part.ensures.names c.args.self.now.side) c.requires

pub returns-clause-moves : goal.returns-clause-moves
returns-clause-moves g c = side_stopped _ _ _ c.args.self.now (c.side_part.ensures.names c.args.self.now.side) c.stop_part.ensures.moves
