use Rattle.std.proofs.Common.{[], arith, refl, ◌∙◌}
use Rattle.sip_request.proofs.Moving.{Moves-stays}
use Rattle.sip_request.proofs.Setting.{both_stopped, stays_in_order}
use Rattle.sip_request.proofs.Walking.{held_left, left_without_keys, Moves-passed, Moves-through}
use Rattle.sip_request.proofs.branches.stop_left.Goals as goal

pub loop-at-init : goal.loop-at-init
loop-at-init g c = record { moved = Moves-stays _ _; room = omega arith; sets = stays_in_order _ _ _; still = refl }

pub stop_at-requires-clause-held : goal.stop_at-requires-clause-held
stop_at-requires-clause-held g c = held_left _ _ _ [] _ c.requires.held c.loop-at.invariant.moved

pub loop-at-preserved : goal.loop-at-preserved
loop-at-preserved g c = record {
  moved = Moves-passed _ _ _ _ _ _ c.loop-at.invariant.moved c.stop_at.ensures.moves;
  room = omega (arith, c.stop_at.ensures.left, c.loop-at.invariant.room);
  sets = both_stopped _ _ _ [] c.loop-at.invariant.sets c.stop_at.ensures.sets;
  still = c.stop_at.ensures.still ∙ c.loop-at.invariant.still;
}

pub returns-clause-moves : goal.returns-clause-moves
returns-clause-moves g c =
    Moves-through _ _ _ _ (left_without_keys c.args.was.now c.args.keys.now c.loop-at.at (omega (arith, c.loop-at-test.false))) c.loop-at.invariant.moved
