-- Timers that stand in the order in which they fire.
use Rattle.std.specs.Prelude.{List}
use Rattle.sip_timers.specs.declared.timer.Timer.{Timer}
use Rattle.sip_timers.specs.Timers.{AreOrdered}

-- no timer is due before one that stands in front of it
pub record IsQueue (pending : List Timer) : Type 0 where
  pub ordered : AreOrdered pending
