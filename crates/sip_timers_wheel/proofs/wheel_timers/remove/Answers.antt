use Rattle.std.proofs.Common.{arith}
use Rattle.sip_timers_wheel.proofs.Steps.{present-in, once-in, taken-present, taken-known, taken-near, taken-wheel, taken-pending}
use Rattle.sip_timers_wheel.proofs.wheel_timers.remove.Goals as goal

pub due_of-due-requires : goal.due_of-due-requires
due_of-due-requires c = present-in c.timer_stands.ensures c.args.key c.args.levels.now.lists c.requires.present

pub slot_of-slot-requires : goal.slot_of-slot-requires
slot_of-slot-requires c = taken-near c.args.reached c.args.levels.now.lists c.args.key c.due_of-due.result c.requires.wheel c.due_of-due.ensures
    (present-in c.timer_stands.ensures c.args.key c.args.levels.now.lists c.requires.present)

pub remove-requires-clause-within : goal.remove-requires-clause-within
remove-requires-clause-within c = omega (
  arith,
  c.slot_of-slot.ensures,
  taken-known c.args.reached c.args.levels.now.lists c.args.key c.due_of-due.result c.requires.wheel
      c.due_of-due.ensures (present-in c.timer_stands.ensures c.args.key c.args.levels.now.lists c.requires.present),
)

pub remove-requires-clause-present : goal.remove-requires-clause-present
remove-requires-clause-present c = rw c.slot_of-slot.ensures (taken-present c.args.reached c.args.levels.now.lists c.args.key c.due_of-due.result c.requires.wheel
    c.due_of-due.ensures (present-in c.timer_stands.ensures c.args.key c.args.levels.now.lists c.requires.present))

pub returns-clause-wheel : goal.returns-clause-wheel
returns-clause-wheel c = taken-wheel c.args.reached c.args.levels.now.lists c.args.key c.due_of-due.result c.requires.wheel c.due_of-due.ensures
    (present-in c.timer_stands.ensures c.args.key c.args.levels.now.lists c.requires.present) c.remove.new.self.lists c.slot_of-slot.result c.slot_of-slot.ensures
    c.remove.ensures.gone

pub returns-clause-gone : goal.returns-clause-gone
returns-clause-gone c = taken-pending c.args.reached c.args.levels.now.lists c.args.key c.due_of-due.result c.requires.wheel c.due_of-due.ensures
    (present-in c.timer_stands.ensures c.args.key c.args.levels.now.lists c.requires.present) c.remove.new.self.lists c.slot_of-slot.result c.slot_of-slot.ensures
    c.remove.ensures.gone c.earlier_fires_first.ensures.set c.earlier_fires_first.ensures.cancelled

pub returns-clause-once : goal.returns-clause-once
returns-clause-once c = once-in c.timer_stands.ensures c.args.key c.args.levels.now.lists c.remove.ensures.once
