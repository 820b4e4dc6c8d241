use Rattle.std.proofs.Common.{arith}
use Rattle.sip_timers_wheel.proofs.Marked.{moved-length, moved-marks}
use Rattle.sip_timers_wheel.proofs.levels.Levels.move_first.Goals as goal

pub mark-requires : goal.mark-requires
mark-requires c = omega (
  arith,
  c.requires.from_within,
  c.self.invariant.0,
  moved-length c.self.inside.slots.lists c.move_first.new.self.lists c.args.from c.args.to
      (rw c.self.view_is c.requires.present) c.move_first.ensures.moved,
)

pub mark-requires-2 : goal.mark-requires-2
mark-requires-2 c = omega (
  arith,
  c.requires.to_within,
  c.self.invariant.0,
  moved-length c.self.inside.slots.lists c.move_first.new.self.lists c.args.from c.args.to
      (rw c.self.view_is c.requires.present) c.move_first.ensures.moved,
)

pub invariant_of-self : goal.invariant_of-self
invariant_of-self c = (
  omega (
    arith,
    c.self.invariant.0,
    moved-length c.self.inside.slots.lists c.move_first.new.self.lists c.args.from c.args.to (rw c.self.view_is c.requires.present)
        c.move_first.ensures.moved,
  ),
  moved-marks c.self.inside.slots.lists c.move_first.new.self.lists c.args.from c.args.to (rw c.self.view_is c.requires.present) c.move_first.ensures.moved
      c.self.inside.marks c.mark.new.marks c.mark-2.new.marks c.self.invariant.1 c.mark.ensures c.mark-2.ensures,
)
