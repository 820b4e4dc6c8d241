use Rattle.std.proofs.Common.{arith, refl}
use Rattle.sip_timers_wheel.proofs.Moves.{first-goes, moved-wheel, moved-pending, unreached-wheel}
use Rattle.sip_timers_wheel.proofs.Steps.{first-ahead, later-reached, none-reached}
use Rattle.sip_timers_wheel.proofs.wheel_timers.move_down.Goals as goal

pub returns-in_default-clause-wheel : goal.returns-in_default-clause-wheel
returns-in_default-clause-wheel c = unreached-wheel c.args.reached c.args.now c.args.levels.now.lists c.requires.wheel (omega (arith, c.requires.later))
    (none-reached c.args.reached c.args.now c.args.levels.now.lists c.in_default.ensures.slot)

pub returns-then-slot-now-clause-wheel : goal.returns-then-slot-now-clause-wheel
returns-then-slot-now-clause-wheel c = unreached-wheel c.args.reached c.args.now c.args.levels.now.lists c.requires.wheel (omega (arith, c.requires.later))
    (later-reached c.args.reached c.args.now c.args.levels.now.lists c.in-Some.slot.slot c.in-Some.slot.start c.in-Some.ensures.slot.0 c.in-Some.ensures.slot.1
    c.if-slot-now.true)

pub empty_slot-requires-clause-goes : goal.empty_slot-requires-clause-goes
empty_slot-requires-clause-goes c = first-goes c.args.reached c.args.levels.now.lists c.in-Some.slot.slot c.in-Some.slot.start c.in-Some.ensures.slot.0 c.in-Some.slot.due
    c.min-so_far.result c.requires.wheel c.in-Some.ensures.slot.1 c.in-Some.ensures.front
    (omega (arith, c.min-so_far.ensures, c.if-slot-now.false, c.in-Some.ensures.slot.1.own c.in-Some.slot.due c.in-Some.ensures.front))
    (omega (arith, c.min-so_far.ensures))

pub returns-clause-wheel : goal.returns-clause-wheel
returns-clause-wheel c = moved-wheel c.args.reached c.args.levels.now.lists c.in-Some.slot.slot c.in-Some.slot.start c.in-Some.ensures.slot.0 c.in-Some.slot.due
    c.min-so_far.result c.requires.wheel c.in-Some.ensures.slot.1 c.in-Some.ensures.front
    (omega (arith, c.min-so_far.ensures, c.if-slot-now.false, c.in-Some.ensures.slot.1.own c.in-Some.slot.due c.in-Some.ensures.front))
    (omega (arith, c.min-so_far.ensures)) c.empty_slot.new.levels.lists c.empty_slot.ensures.moved.0 c.empty_slot.ensures.moved.1 c.empty_slot.ensures.emptied

pub returns-clause-further : goal.returns-clause-further
returns-clause-further c = omega (
  arith,
  c.min-so_far.ensures,
  c.requires.later,
  c.in-Some.ensures.slot.1.ahead,
  c.in-Some.ensures.slot.1.own c.in-Some.slot.due c.in-Some.ensures.front,
)

pub returns-clause-same : goal.returns-clause-same
returns-clause-same c = moved-pending c.args.reached c.args.levels.now.lists c.in-Some.slot.slot c.in-Some.slot.start c.in-Some.ensures.slot.0 c.in-Some.slot.due
    c.min-so_far.result c.requires.wheel c.in-Some.ensures.slot.1 c.in-Some.ensures.front
    (omega (arith, c.min-so_far.ensures, c.if-slot-now.false, c.in-Some.ensures.slot.1.own c.in-Some.slot.due c.in-Some.ensures.front))
    (omega (arith, c.min-so_far.ensures)) c.empty_slot.new.levels.lists c.empty_slot.ensures.moved.0 c.empty_slot.ensures.moved.1 c.empty_slot.ensures.emptied
    c.earlier_fires_first.ensures.set

pub returns-then-are_ahead-clause-wheel : goal.returns-then-are_ahead-clause-wheel
returns-then-are_ahead-clause-wheel c = unreached-wheel c.args.reached c.args.now c.args.levels.now.lists c.requires.wheel (omega (arith, c.requires.later))
    (first-ahead c.earlier_fires_first.ensures.set c.args.reached c.args.levels.now.lists c.requires.wheel c.args.now c.args.first.now c.requires.first
    (c.if-are_ahead.ensures refl))
