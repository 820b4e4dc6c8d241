-- What a queue of timers is seen as.
use Rattle.std.specs.Prelude.{ℕ, List}
use Rattle.sip_timers.specs.declared.timer.Timer.{Timer}

-- the timers that stand in the order in which they fire, the greatest moment by which one was asked for (at
-- first 0), and how many further timers take no memory
pub record TimerQueue : Type 0 where
  pub pending : List Timer
  pub reached : ℕ
  pub room : ℕ
