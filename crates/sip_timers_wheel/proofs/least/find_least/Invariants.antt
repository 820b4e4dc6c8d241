use Rattle.std.proofs.Common.{length}
use Rattle.slab.specs.Slab.{slab_len}
use Rattle.sip_timers_wheel.specs.Lists.{least}
use Rattle.sip_timers_wheel.specs.Threads.{list_of, walk}
use Rattle.sip_timers_wheel.proofs.Looking.{IsLeft}
use Rattle.sip_timers_wheel.proofs.least.find_least.Given as goal

abbrev pub invariant-loop-at : goal.invariant-loop-at
invariant-loop-at l = IsLeft l.rows l.at l.best (least (list_of l.rows l.head))

abbrev pub decreases-loop-at : goal.decreases-loop-at
decreases-loop-at l = length (walk l.rows (slab_len l.rows) l.at)
