use Rattle.std.proofs.Common.{refl}
use Rattle.sip_request.proofs.Walking.{held_begun, Moves-begun, IsNear-later, part_near, without_keys}
use Rattle.sip_request.proofs.Joining.{keyed-none, matched_none}
use Rattle.sip_request.proofs.Setting.{begun_in_order}
use Rattle.sip_request.proofs.retiming.begin.Goals as goal

pub set_part-side-requires-clause-near : goal.set_part-side-requires-clause-near
set_part-side-requires-clause-near g c = part_near _ _ _ c.side_part-part.ensures.timers c.requires.near.side

pub sync_branches-requires-clause-held : goal.sync_branches-requires-clause-held
sync_branches-requires-clause-held g c = held_begun _ _ _ _ _ refl (without_keys c.args.next.now c.args.next.now.branches) c.requires.apart c.set_part-side.ensures.moves

pub sync_branches-requires-clause-timed : goal.sync_branches-requires-clause-timed
sync_branches-requires-clause-timed g c = IsNear-later _ _ _ c.requires.moments c.requires.near

pub returns-clause-moves : goal.returns-clause-moves
returns-clause-moves g c =
    Moves-begun _ _ _ _ _ _ _ _ refl (without_keys c.args.next.now c.args.next.now.branches) (c.side_part-part.ensures.names c.set_part-side.result)
    c.set_part-side.ensures.moves c.sync_branches.ensures.moves

pub returns-clause-sets : goal.returns-clause-sets
returns-clause-sets g c =
    begun_in_order _ _ _ _ _ _ _ (c.side_part-part.ensures.names c.set_part-side.result) (without_keys c.args.next.now c.args.next.now.branches)
    c.set_part-side.ensures.sets
    (c.sync_branches.ensures.sets (matched_none _ c.args.next.now.branches (keyed-none c.args.next.now.branches)))
