use Rattle.std.proofs.Common.{◌+◌, ◌<◌, [], ap, arith, cond, length, refl, sym}
use Rattle.std.proofs.lemmas.List.{get_or_default}
use Rattle.sip_request.proofs.Joining.{met_none, met_stood}
use Rattle.sip_request.proofs.Setting.{as_named}
use Rattle.sip_request.proofs.Walking.{AreBefore-weaker, left_more, Moves-matched, part_near}
use Rattle.sip_request.proofs.branches.change_branch.Goals as goal

pub branch_part_here-part-requires-clause-early : goal.branch_part_here-part-requires-clause-early
branch_part_here-part-requires-clause-early g c = AreBefore-weaker _ _ _ c.requires.moments c.requires.near

pub set_part-keys-requires-clause-near : goal.set_part-keys-requires-clause-near
set_part-keys-requires-clause-near g c = part_near _ _ _ c.branch_part_here-part.ensures.timers c.requires.near

pub returns-clause-moves : goal.returns-clause-moves
returns-clause-moves g c =
    let within : c.args.place < length c.as_slice-branches.result.now = omega (arith, (c.if-not-stands_at.ensures.within refl).0, ap length c.as_slice-branches.ensures)
    in
    Moves-matched _ _ _ _ _ _ _
    (left_more c.args.was.now c.as_slice-branches.result.now c.args.was_keys.now c.args.place c.index-branches-place.result _ _ c.as_slice-branches.ensures within
    (c.if-not-stands_at.ensures.within refl).1 c.index-branches-place.is (get_or_default c.args.was_keys.now c.args.place _ _
    (c.if-not-stands_at.ensures.within refl).1) (c.branch_part_here-stood.ensures.names _))
    (c.branch_part_here-part.ensures.names c.sync_part-keys.result)
    c.sync_part-keys.ensures.moves

pub returns-then-not-stands_at-clause-sets : goal.returns-then-not-stands_at-clause-sets
returns-then-not-stands_at-clause-sets g c =
    as_named _ _ _ [] _ _ (sym (met_none c.args.was.now c.args.was_keys.now c.args.place c.args.branch.now (sym c.if-not-stands_at.ensures.next)))
    (c.branch_part_here-part.ensures.names c.set_part-keys.result) c.set_part-keys.ensures.sets

pub returns-then-not-stands_at-clause-place : goal.returns-then-not-stands_at-clause-place
returns-then-not-stands_at-clause-place g c = ap (λ t. cond t (c.args.place + 1) c.args.place) c.if-not-stands_at.ensures.next

pub returns-clause-sets : goal.returns-clause-sets
returns-clause-sets g c =
    let in_keys : c.args.place < length c.args.was_keys.now = (c.if-not-stands_at.ensures.within refl).1 in
    let in_branches : c.args.place < length c.as_slice-branches.result.now = omega (
      arith,
      (c.if-not-stands_at.ensures.within refl).0,
      ap length c.as_slice-branches.ensures,
    ) in
    as_named _ _ _ _ _ _
    (met_stood c.args.was.now c.as_slice-branches.result.now c.args.was_keys.now c.args.place c.index-branches-place.result c.args.branch.now _ _
    c.as_slice-branches.ensures in_branches in_keys c.index-branches-place.is (get_or_default c.args.was_keys.now c.args.place _ _ in_keys)
    c.if-not-stands_at.ensures.next (c.branch_part_here-stood.ensures.names _))
    (c.branch_part_here-part.ensures.names c.sync_part-keys.result)
    (c.sync_part-keys.ensures.sets c.branch_part_here-stood.ensures.slots c.branch_part_here-part.ensures.slots)

pub returns-clause-place : goal.returns-clause-place
returns-clause-place g c = ap (λ t. cond t (c.args.place + 1) c.args.place) c.if-not-stands_at.ensures.next
