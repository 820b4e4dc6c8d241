-- Timers that are named and timers that stand, for each test as many.
use Rattle.std.specs.Prelude.{◌≡◌, ◌≤◌, ◌+◌, Bool, List, count_by}
use Rattle.sip_timers.specs.declared.timer.Timer.{Timer}
use Rattle.sip_timers.specs.Timers.{KeysDiffer}

-- these timers stand, and no two that stand have one key
pub record IsHeld (pending held : List Timer) : Type 0 where
  pub stand : (p : Timer → Bool) → count_by p held ≤ count_by p pending
  pub keys_differ : KeysDiffer pending

-- exactly these timers stand, and no two have one key
pub record IsTied (pending named : List Timer) : Type 0 where
  pub same : (p : Timer → Bool) → count_by p pending ≡ count_by p named
  pub keys_differ : KeysDiffer pending

-- Timers were stopped and set: what stands afterwards and was named before is as much as what stood before and is
-- named afterwards.
pub record Moves (old before new after : List Timer) : Type 0 where
  pub same : (p : Timer → Bool) → count_by p new + count_by p before ≡ count_by p old + count_by p after
  pub keys_differ : KeysDiffer old → KeysDiffer new
