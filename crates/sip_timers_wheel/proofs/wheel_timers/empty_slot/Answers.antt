use Rattle.std.proofs.Common.{arith, [], sym, ◌∙◌}
use Rattle.sip_timers_wheel.proofs.Moves.{moved-none}
use Rattle.sip_timers_wheel.proofs.Steps.{near-by, goes-now, still-moved, fewer-left}
use Rattle.sip_timers_wheel.proofs.wheel_timers.empty_slot.Goals as goal

pub loop-due-init : goal.loop-due-init
loop-due-init c = (([], moved-none c.args.reached c.args.slot c.args.levels.now.lists), omega arith)

pub slot_of-to-requires : goal.slot_of-to-requires
slot_of-to-requires c = near-by c.args.reached c.in-Some.due (omega (
  arith,
  c.requires.slots.0,
  (goes-now c.args.reached c.args.slot c.loop-due.invariant.0.0 c.args.levels.now.lists c.loop-due.levels.lists c.in-Some.due c.loop-due.invariant.0.1
      (sym c.first_due.ensures ∙ c.in-Some.is) c.requires.goes c.requires.slots.0 c.requires.slots.1).1,
))

pub move_first-requires-clause-to_within : goal.move_first-requires-clause-to_within
move_first-requires-clause-to_within c = omega (
  arith,
  c.requires.slots.0,
  c.slot_of-to.ensures,
  (goes-now c.args.reached c.args.slot c.loop-due.invariant.0.0 c.args.levels.now.lists c.loop-due.levels.lists c.in-Some.due c.loop-due.invariant.0.1
      (sym c.first_due.ensures ∙ c.in-Some.is) c.requires.goes c.requires.slots.0 c.requires.slots.1).1,
)

pub move_first-requires-clause-differ : goal.move_first-requires-clause-differ
move_first-requires-clause-differ c = λ e. (goes-now c.args.reached c.args.slot c.loop-due.invariant.0.0 c.args.levels.now.lists c.loop-due.levels.lists c.in-Some.due
    c.loop-due.invariant.0.1 (sym c.first_due.ensures ∙ c.in-Some.is) c.requires.goes c.requires.slots.0 c.requires.slots.1).0 (sym c.slot_of-to.ensures ∙ sym e)

pub loop-due-smaller : goal.loop-due-smaller
loop-due-smaller c = fewer-left c.args.reached c.args.slot c.loop-due.invariant.0.0 c.args.levels.now.lists c.loop-due.levels.lists c.in-Some.due c.loop-due.invariant.0.1
    (sym c.first_due.ensures ∙ c.in-Some.is) c.requires.goes c.requires.slots.0 c.requires.slots.1 c.move_first.new.self.lists c.slot_of-to.result c.slot_of-to.ensures
    c.move_first.ensures.moved

pub loop-due-preserved : goal.loop-due-preserved
loop-due-preserved c = (
  still-moved c.args.reached c.args.slot c.loop-due.invariant.0.0 c.args.levels.now.lists c.loop-due.levels.lists c.in-Some.due c.loop-due.invariant.0.1
      (sym c.first_due.ensures ∙ c.in-Some.is) c.requires.goes c.requires.slots.0 c.requires.slots.1 c.move_first.new.self.lists c.slot_of-to.result c.slot_of-to.ensures
      c.move_first.ensures.moved,
  omega (arith, c.loop-due.invariant.1, c.move_first.ensures.left),
)
