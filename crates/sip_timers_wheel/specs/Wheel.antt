-- The lists of a timer wheel.
use Rattle.std.specs.Prelude.{◌≡◌, ◌≢◌, ◌≤◌, ◌<◌, ◌+◌, ◌*◌, ◌%◌, ℕ, List, [], ◌++◌, Option, length, nat_eq, if◌then◌else◌}
use Rattle.sip_timers.specs.declared.timer.Timer.{Timer}
use Rattle.sip_timers_wheel.specs.Lists.{list_at, concat, first_of}
use Rattle.sip_timers_wheel.specs.Places.{slot_of, late_slot, start_of}
use Rattle.sip_timers_wheel.specs.Order.{due_at, in_order}

-- what is due at a moment stands in the slot of that moment alone
abbrev pub StandInPlace : ℕ → List (List Timer) → Type 0
StandInPlace reached lists = (due slot : ℕ) → slot ≢ slot_of reached due → due_at due (list_at lists slot) ≡ []

-- the timers that stand, in the order in which they fire
abbrev pub pending_in : List (List Timer) → List Timer
pending_in lists = in_order (concat lists)

-- the lists of a wheel at a moment: one for each slot of the levels, and that of what is late
pub record IsWheel (reached : ℕ) (lists : List (List Timer)) : Type 0 where
  pub slots : length lists ≡ 321
  pub in_place : StandInPlace reached lists

-- a wheel at a moment that knows which of its timers fires first
pub record KnowsFirst (reached : ℕ) (lists : List (List Timer)) (known : Option Timer) : Type 0 where
  pub wheel : IsWheel reached lists
  pub first : known ≡ first_of (pending_in lists)

-- the slot whose timers are due first: from its first moment on, and before its end; all others of the levels begin at that end or later
pub record IsFirstSlot (reached : ℕ) (lists : List (List Timer)) (slot start end : ℕ) : Type 0 where
  pub holds : 1 ≤ length (list_at lists slot)
  pub in_level : slot < late_slot
  pub ahead : reached < start
  pub spans : start < end
  pub start_is : (due : ℕ) → slot_of reached due ≡ slot → start_of reached due ≡ start
  pub own : (due : ℕ) → slot_of reached due ≡ slot → (start ≤ due) × (due < end)
  pub others : (due : ℕ) → slot_of reached due ≢ slot → slot_of reached due < late_slot → 1 ≤ length (list_at lists (slot_of reached due))
      → end ≤ start_of reached due

-- the timers of a slot, each moved behind those of the slot of its moment
pub record AreMoved (reached slot : ℕ) (moved : List Timer) (old new : List (List Timer)) : Type 0 where
  pub left : list_at old slot ≡ moved ++ list_at new slot
  pub others : (due other : ℕ) → other ≢ slot → due_at due (list_at new other) ≡ due_at due (list_at old other)
      ++ (if nat_eq other (slot_of reached due) then due_at due moved else [])
  pub slots : length new ≡ length old

-- whatever of a slot is due goes to another one when a moment is reached
abbrev pub GoesElsewhere : ℕ → ℕ → List (List Timer) → Type 0
GoesElsewhere reached slot lists = (due : ℕ) → 1 ≤ length (due_at due (list_at lists slot)) → (slot_of reached due ≢ slot)
    × (slot_of reached due < length lists)

-- ---- inside

-- no list of a level
abbrev pub IsEmptyLevel : List (List Timer) → ℕ → Type 0
IsEmptyLevel lists level = (digit : ℕ) → digit < 64 → list_at lists (level * 64 + digit) ≡ []

-- the first slot of a level that has a list, from one on and round
pub record IsFirstFrom (lists : List (List Timer)) (level from offset : ℕ) : Type 0 where
  pub within : offset < 64
  pub holds : 1 ≤ length (list_at lists (level * 64 + (from + offset) % 64))
  pub before : (nearer : ℕ) → nearer < offset → list_at lists (level * 64 + (from + nearer) % 64) ≡ []

-- no slot of a level begins by a moment, unless it is empty
abbrev pub AreUnreached : ℕ → ℕ → List (List Timer) → Type 0
AreUnreached reached now lists = (due : ℕ) → slot_of reached due < late_slot → 1 ≤ length (list_at lists (slot_of reached due)) → now
    < start_of reached due
