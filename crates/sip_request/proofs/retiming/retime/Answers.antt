use Rattle.std.proofs.Common.{refl}
use Rattle.sip_request.proofs.Walking.{held_side, held_behind, Moves-pair}
use Rattle.sip_request.proofs.Joining.{all_set}
use Rattle.sip_request.proofs.retiming.retime.Goals as goal

pub retime_side-side-requires-clause-held : goal.retime_side-side-requires-clause-held
retime_side-side-requires-clause-held g c = held_side _ _ _ _ refl c.requires.held

pub sync_branches-requires-clause-held : goal.sync_branches-requires-clause-held
sync_branches-requires-clause-held g c = held_behind _ _ _ _ _ _ refl c.requires.held c.retime_side-side.ensures.moves

pub returns-clause-moves : goal.returns-clause-moves
returns-clause-moves g c = Moves-pair _ _ _ _ _ _ _ _ _ refl refl c.retime_side-side.ensures.moves c.sync_branches.ensures.moves

pub returns-clause-sets : goal.returns-clause-sets
returns-clause-sets g c = λ matched.
    all_set _ _ _ c.args.was.now c.args.next.now c.args.was_side c.retime_side-side.result c.args.was_keys.now _ c.retime_side-side.ensures.sets
    (c.sync_branches.ensures.sets matched)
