use Rattle.std.proofs.Common.{◌+◌, ◌<◌, arith, length, refl}
use Rattle.std.proofs.lemmas.List.{get_or_default}
use Rattle.sip_request.proofs.Ending.{Moves-nothing}
use Rattle.sip_request.proofs.Moving.{Moves-stays}
use Rattle.sip_request.proofs.Walking.{held_front, left_more, left_over, left_without_keys, Moves-less, near_at}
use Rattle.sip_request.proofs.branches.stop_at.Goals as goal

pub returns-then-place-keys-clause-moves : goal.returns-then-place-keys-clause-moves
returns-then-place-keys-clause-moves g c =
    Moves-nothing _ _ _ (left_without_keys c.args.was.now c.args.keys.now c.args.place c.if-place-keys.true)
    (left_without_keys c.args.was.now c.args.keys.now (c.args.place + 1) (omega (arith, c.if-place-keys.true)))

pub returns-then-place-branches-clause-moves : goal.returns-then-place-branches-clause-moves
returns-then-place-branches-clause-moves g c =
    Moves-nothing _ _ _ (left_over c.args.was.now c.as_slice-branches.result.now c.args.keys.now c.args.place c.as_slice-branches.ensures c.if-place-branches.true)
    (left_over c.args.was.now c.as_slice-branches.result.now c.args.keys.now (c.args.place + 1) c.as_slice-branches.ensures (omega (arith, c.if-place-branches.true)))

pub stop_branch-requires-clause-held : goal.stop_branch-requires-clause-held
stop_branch-requires-clause-held g c =
    let in_branches : c.args.place < length c.as_slice-branches.result.now = omega (arith, c.if-place-branches.false) in
    let in_keys : c.args.place < length c.args.keys.now = omega (arith, c.if-place-keys.false) in
    held_front _ _ _ _
    (left_more c.args.was.now c.as_slice-branches.result.now c.args.keys.now c.args.place c.index-branches-place.result _ _ c.as_slice-branches.ensures in_branches
    in_keys c.index-branches-place.is (get_or_default c.args.keys.now c.args.place _ _ in_keys) refl)
    c.requires.held

pub stop_branch-requires-clause-early : goal.stop_branch-requires-clause-early
stop_branch-requires-clause-early g c =
    let in_branches : c.args.place < length c.as_slice-branches.result.now = omega (arith, c.if-place-branches.false) in
    near_at _ c.args.was.now c.as_slice-branches.result.now c.args.place c.index-branches-place.result c.requires.timed c.as_slice-branches.ensures in_branches
    c.index-branches-place.is

pub returns-clause-moves : goal.returns-clause-moves
returns-clause-moves g c =
    let in_branches : c.args.place < length c.as_slice-branches.result.now = omega (arith, c.if-place-branches.false) in
    let in_keys : c.args.place < length c.args.keys.now = omega (arith, c.if-place-keys.false) in
    Moves-less _ _ _ _ _ _ _
    (left_more c.args.was.now c.as_slice-branches.result.now c.args.keys.now c.args.place c.index-branches-place.result _ _ c.as_slice-branches.ensures in_branches
    in_keys c.index-branches-place.is (get_or_default c.args.keys.now c.args.place _ _ in_keys) refl)
    (Moves-stays _ _) c.stop_branch.ensures.moves
