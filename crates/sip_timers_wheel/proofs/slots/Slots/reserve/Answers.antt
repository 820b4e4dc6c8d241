use Rattle.std.proofs.Common.{ap}
use Rattle.sip_timers_wheel.specs.Threads.{lists_of}
use Rattle.sip_timers_wheel.proofs.Whole.{held_same, held_again}
use Rattle.sip_timers_wheel.proofs.slots.Slots.reserve.Goals as goal

pub invariant_of-self : goal.invariant_of-self
invariant_of-self c = held_again 0 _ _ _ (held_same 0 c.self.inside.rows c.reserve.new.self c.self.inside.heads.items
    (lists_of c.self.inside.rows c.self.inside.heads.items) c.self.invariant (ap (λ s. s.slots) c.reserve.ensures.rest_kept))
