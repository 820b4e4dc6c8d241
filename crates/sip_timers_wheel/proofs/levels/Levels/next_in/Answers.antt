use Rattle.sip_timers_wheel.proofs.Marked.{first-from}
use Rattle.sip_timers_wheel.proofs.levels.Levels.next_in.Goals as goal

pub returns : goal.returns
returns c = rw (← c.self.view_is) (first-from c.self.inside.marks c.self.inside.slots.lists c.args.level c.args.from c.in_ok-offset.offset c.self.invariant.1 c.requires.0
    c.in_ok-offset.ensures)
