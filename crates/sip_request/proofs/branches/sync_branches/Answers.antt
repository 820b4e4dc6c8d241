use Rattle.std.proofs.Common.{◌≡◌, List, arith, refl, ap, length, subst, sym, ◌∙◌}
use Rattle.sip_request.proofs.Moving.{Moves-stays}
use Rattle.model_transactions.specs.state.declared.branch.Branch.{Branch}
use Rattle.model_transactions.specs.Ties.{branch_timers, owner_of, part_timers}
use Rattle.model_transactions.specs.Matching.{AreMatched}
use Rattle.sip_request.specs.Order.{keyed}
use Rattle.sip_request.proofs.Joining.{joined_at, joined_first, joined_further, order_done, order_more}
use Rattle.sip_request.proofs.Setting.{over_in_order, owned, stays_in_order}
use Rattle.sip_request.proofs.Walking.{all_done, done_more, held_left, left_without_keys, Moves-all, Moves-further, Moves-over}
use Rattle.sip_request.proofs.branches.sync_branches.Goals as goal

pub loop-i-init : goal.loop-i-init
loop-i-init g c = record {
  moved = Moves-stays _ _;
  room = omega arith;
  joined = λ matched. joined_first c.args.was.now c.args.was_keys.now (g.T.Timers.pending c.args.timers.now) c.as_slice-branches.result.now
      (subst (λ (bs : List Branch). AreMatched (keyed c.args.was.now.branches c.args.was_keys.now) bs) (sym c.as_slice-branches.ensures) matched) (stays_in_order _ _ _);
  still = refl;
}

pub sync_branch-synced-requires-clause-held : goal.sync_branch-synced-requires-clause-held
sync_branch-synced-requires-clause-held g c = held_left _ _ _ _ _ c.requires.held c.loop-i.invariant.moved

pub loop-i-preserved : goal.loop-i-preserved
loop-i-preserved g c =
    let long : length c.loop-i.keys ≡ length c.as_slice-branches.result.now = omega (arith, c.requires.keys, c.loop-i.auto.keys, ap length c.as_slice-branches.ensures) in
    let more = done_more c.args.next.now c.as_slice-branches.result.now c.loop-i.keys c.loop-i.i c.index-branches-i.result c.sync_branch-synced.result.keys
    c.loop-i-test.true long c.index-branches-i.is in
    record {
      moved = Moves-further _ _ _ _ _ _ _ _ _ more c.loop-i.invariant.moved c.sync_branch-synced.ensures.moves;
      room = omega (arith, c.loop-i.invariant.room, c.sync_branch-synced.ensures.left);
      joined = λ matched. joined_further c.args.was.now c.args.was_keys.now c.loop-i.place c.sync_branch-synced.result.place _ _ _ _
          (part_timers c.args.next.now.number (owner_of c.index-branches-i.result) c.sync_branch-synced.result.keys
          (branch_timers c.args.next.now c.index-branches-i.result))
          _ c.index-branches-i.result _ c.sync_branch-synced.ensures.place
          (order_more c.args.next.now c.as_slice-branches.result.now c.loop-i.keys c.loop-i.i c.index-branches-i.result c.sync_branch-synced.result.keys
          c.loop-i-test.true long c.index-branches-i.is)
          (owned _ _ _ (branch_timers c.args.next.now c.index-branches-i.result))
          (joined_at _ _ _ _ _ _ c.as_slice-branches.result.now c.loop-i.i c.index-branches-i.result c.loop-i-test.true c.index-branches-i.is
          (c.loop-i.invariant.joined matched))
          c.sync_branch-synced.ensures.sets;
      still = c.sync_branch-synced.ensures.still ∙ c.loop-i.invariant.still;
    }

pub stop_left-requires-clause-held : goal.stop_left-requires-clause-held
stop_left-requires-clause-held g c = held_left _ _ _ _ _ c.requires.held c.loop-i.invariant.moved

pub returns-then-place-was_keys-clause-moves : goal.returns-then-place-was_keys-clause-moves
returns-then-place-was_keys-clause-moves g c =
    let long : length c.loop-i.keys ≡ length c.as_slice-branches.result.now = omega (arith, c.requires.keys, c.loop-i.auto.keys, ap length c.as_slice-branches.ensures) in
    Moves-over _ _ _ _ _ _ _ (all_done c.args.next.now c.as_slice-branches.result.now c.loop-i.keys c.loop-i.i c.as_slice-branches.ensures c.loop-i-test.false long)
    c.loop-i.invariant.moved c.stop_left.ensures.moves

pub returns-else-place-was_keys-clause-moves : goal.returns-else-place-was_keys-clause-moves
returns-else-place-was_keys-clause-moves g c =
    let long : length c.loop-i.keys ≡ length c.as_slice-branches.result.now = omega (arith, c.requires.keys, c.loop-i.auto.keys, ap length c.as_slice-branches.ensures) in
    Moves-all _ _ _ _ _ _ (all_done c.args.next.now c.as_slice-branches.result.now c.loop-i.keys c.loop-i.i c.as_slice-branches.ensures c.loop-i-test.false long)
    (left_without_keys c.args.was.now c.args.was_keys.now c.loop-i.place (omega (arith, c.if-place-was_keys.false))) c.loop-i.invariant.moved

pub returns-then-place-was_keys-clause-sets : goal.returns-then-place-was_keys-clause-sets
returns-then-place-was_keys-clause-sets g c = λ matched.
    let long : length c.loop-i.keys ≡ length c.as_slice-branches.result.now = omega (arith, c.requires.keys, c.loop-i.auto.keys, ap length c.as_slice-branches.ensures) in
    over_in_order _ _ _ _ _ _ (order_done c.args.next.now c.as_slice-branches.result.now c.loop-i.keys c.loop-i.i c.as_slice-branches.ensures c.loop-i-test.false long)
    (c.loop-i.invariant.joined matched).sets c.stop_left.ensures.sets

pub returns-else-place-was_keys-clause-sets : goal.returns-else-place-was_keys-clause-sets
returns-else-place-was_keys-clause-sets g c = λ matched.
    let long : length c.loop-i.keys ≡ length c.as_slice-branches.result.now = omega (arith, c.requires.keys, c.loop-i.auto.keys, ap length c.as_slice-branches.ensures) in
    over_in_order _ _ _ _ _ _ (order_done c.args.next.now c.as_slice-branches.result.now c.loop-i.keys c.loop-i.i c.as_slice-branches.ensures c.loop-i-test.false long)
    (c.loop-i.invariant.joined matched).sets (stays_in_order _ _ _)
