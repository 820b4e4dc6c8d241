-- Timers that stand, without their keys, before and after an event.
use Rattle.std.specs.Prelude.{◌≡◌, ◌≤◌, not, Bool, false, List, map, filter, count_by}
use Rattle.std.specs.List.{AllByRecursion}
use Rattle.sip_timers.specs.declared.timer.Timer.{Timer}
use Rattle.sip_timers.specs.Timers.{AreOrdered}
use Rattle.sip_timers.specs.Setting.{IsNew, SetsInOrder}
use Rattle.model_transactions.specs.Queue.{Entry, entry_of, same_entry, has}

-- timers without their keys
abbrev pub entries : List Timer → List Entry
entries ts = map entry_of ts

-- What stands is exactly what is to stand, no two alike; none that is named is one of those that stood, unless it is one of those
-- before; and of what is to stand, what didn't stand is what is named and didn't.
pub record AreQueued (old before new named : List Timer) (standing : List Entry) : Type 0 where
  pub sets : SetsInOrder old before new named
  pub ordered : AreOrdered old
  pub exact : (p : Entry → Bool) → count_by p (entries new) ≡ count_by p standing
  pub once_before : (e : Entry) → count_by (same_entry e) (entries old) ≤ 1
  pub once : (e : Entry) → count_by (same_entry e) standing ≤ 1
  pub within : (p : Entry → Bool) → count_by p (entries named) ≤ count_by p standing
  pub elsewhere : AllByRecursion (λ t. IsNew before t → has (entry_of t) (entries old) ≡ false) named
  pub others : filter (λ e. not (has e (entries old))) standing ≡ filter (λ e. not (has e (entries old))) (entries named)
