-- Words of marks: one bit for each slot of a level.
use Rattle.std.specs.Prelude.{◌≡◌, ◌≢◌, ◌<◌, ◌+◌, ◌/◌, ◌%◌, ℕ, nat_eq, List, length, slice_index_or, if◌then◌else◌}
use Rattle.std.specs.Int.{bit_at}
use Rattle.sip_timers.specs.declared.timer.Timer.{Timer}
use Rattle.sip_timers_wheel.specs.Lists.{list_at}
use Rattle.sip_timers_wheel.specs.Places.{late_slot}

-- a mark is there, from one place on and round, and no nearer one
pub record IsNextMark (word from offset : ℕ) : Type 0 where
  pub within : offset < 64
  pub marked : bit_at word ((from + offset) % 64) ≡ 1
  pub before : (nearer : ℕ) → nearer < offset → bit_at word ((from + nearer) % 64) ≡ 0

-- no mark is there
abbrev pub HasNoMark : ℕ → Type 0
HasNoMark word = (place : ℕ) → place < 64 → bit_at word place ≡ 0

-- the mark of a slot, in the words of the levels
abbrev pub mark_of : List ℕ → ℕ → ℕ
mark_of words slot = bit_at (slice_index_or words (slot / 64) 0) (slot % 64)

-- the mark that a list has: none where it is empty
abbrev pub mark_for : List Timer → ℕ
mark_for ts = if nat_eq (length ts) 0 then 0 else 1

-- each slot of the levels has the mark of its list
abbrev pub AreMarked : List ℕ → List (List Timer) → Type 0
AreMarked words lists = (slot : ℕ) → slot < late_slot → mark_of words slot ≡ mark_for (list_at lists slot)

-- one slot has the mark of its list, and all others have those they had
pub record IsMarkedAt (old new : List ℕ) (lists : List (List Timer)) (slot : ℕ) : Type 0 where
  pub words : length new ≡ length old
  pub here : slot < late_slot → mark_of new slot ≡ mark_for (list_at lists slot)
  pub others : (other : ℕ) → other ≢ slot → mark_of new other ≡ mark_of old other
