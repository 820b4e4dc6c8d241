-- How lists of timers are threaded through the rows of one slab.
use Rattle.std.specs.Prelude.{ℕ, ◌≡◌, ◌≢◌, ◌≤◌, ◌+◌, ◌==◌, nat_lt, zero, suc, true, List, [], ◌∷◌, Option, Some, None, MatchOption}
use Rattle.std.specs.Prelude.{option_map, map, length, slice_index_or, if◌then◌else◌}
use Rattle.slab.specs.Slab.{Slab, get, slab_len}
use Rattle.sip_timers.specs.declared.timer.Timer.{Timer}
use Rattle.sip_timers.specs.Timers.{keys_with, without, AreOrdered}
use Rattle.sip_timers_wheel.specs.declared.row.RowNumber.{RowNumber}
use Rattle.sip_timers_wheel.specs.declared.row.TimerRow.{TimerRow}
use Rattle.sip_timers_wheel.specs.declared.head.ListHead.{ListHead}
use Rattle.sip_timers_wheel.specs.Lists.{list_at, concat, earlier, least}

-- the number of the row of a timer
abbrev pub number_of : Timer → RowNumber
number_of t = record { 0 = t.key }

-- the number of the first timer, or else what stands behind the list
abbrev pub first_or : List Timer → Option RowNumber → Option RowNumber
first_or [] after = after
first_or (t ∷ ts) after = Some (number_of t)

-- the number of the last timer, or else what stands in front of the list
abbrev pub last_or : List Timer → Option RowNumber → Option RowNumber
last_or [] before = before
last_or (t ∷ ts) before = last_or ts (Some (number_of t))

-- the timer of a row
abbrev pub timer_of : ℕ → TimerRow → Timer
timer_of key row = record { key = key; due = row.due; name = row.name }

-- the row of a timer that stands between two others
abbrev pub row_of : Option RowNumber → Timer → Option RowNumber → TimerRow
row_of before t after = record { due = t.due; name = t.name; previous = before; next = after }

-- each timer has its row, which names the rows in front of it and behind it
abbrev pub IsThread : Slab TimerRow → Option RowNumber → List Timer → Option RowNumber → Type 0
IsThread rows before [] after = Unit {0}
IsThread rows before (t ∷ ts) after =
    (get rows t.key ≡ Some (row_of before t (first_or ts after)))
    × IsThread rows (Some (number_of t)) ts after

-- the timer of a row and those that follow it
abbrev pub met : ℕ → Option TimerRow → (Option RowNumber → List Timer) → List Timer
met key None others = []
met key (Some row) others = timer_of key row ∷ others row.next

-- the timers that are met from a row on, in so many steps
abbrev pub walk : Slab TimerRow → ℕ → Option RowNumber → List Timer
walk rows zero from = []
walk rows (suc steps) None = []
walk rows (suc steps) (Some number) = met number.0 (get rows number.0) (λ from. walk rows steps from)

-- the list that begins at a head, which is no longer than there are rows
abbrev pub list_of : Slab TimerRow → ListHead → List Timer
list_of rows head = walk rows (slab_len rows) head.first

-- the lists of all heads
abbrev pub lists_of : Slab TimerRow → List ListHead → List (List Timer)
lists_of rows heads = map (list_of rows) heads

-- the number that is remembered, if there is one, is that of the timer that is due first
abbrev pub KnowsLeast : Option RowNumber → List Timer → Type 0
KnowsLeast None ts = Unit {0}
KnowsLeast (Some number) ts = option_map number_of (least ts) ≡ Some number

-- the timers that are left when one is taken out, if there is one
abbrev pub all_but : Option Timer → List Timer → List Timer
all_but None ts = []
all_but (Some t) ts = without t.key ts

-- all timers but the one that is due first
abbrev pub all_but_least : List Timer → List Timer
all_but_least ts = all_but (least ts) ts

-- a head and the rows have this list
pub record IsHeld (rows : Slab TimerRow) (head : ListHead) (ts : List Timer) : Type 0 where
  pub thread : IsThread rows None ts None
  pub first : head.first ≡ first_or ts None
  pub last : head.last ≡ last_or ts None
  pub rising : head.is_rising ≡ true → AreOrdered ts
  pub known : KnowsLeast head.least ts
  pub second : KnowsLeast head.second (all_but_least ts)
  pub fits : length ts ≤ slab_len rows

-- the head of an empty list
abbrev pub no_head : ListHead
no_head = record { first = None; last = None; is_rising = true; least = None; second = None }

-- the heads and the rows have these lists; so many rows stand in none of them, and no key stands twice
pub record AreHeld (spare : ℕ) (rows : Slab TimerRow) (heads : List ListHead) (lists : List (List Timer)) : Type 0 where
  pub slots : length heads ≡ length lists
  pub held : (slot : ℕ) → IsHeld rows (slice_index_or heads slot no_head) (list_at lists slot)
  pub once : (key : ℕ) → keys_with key (concat lists) ≤ 1
  pub counted : slab_len rows ≡ length (concat lists) + spare

-- as many rows, and as much room
pub record SameSize (old new : Slab TimerRow) : Type 0 where
  pub len : slab_len new ≡ slab_len old
  pub capacity : new.capacity ≡ old.capacity

-- the row at a number, if there is one, has this next row now, and all others are as they were
pub record NextIs (old new : Slab TimerRow) (at next : Option RowNumber) : Type 0 where
  pub changed : (n : RowNumber) (row : TimerRow) → at ≡ Some n → get old n.0 ≡ Some row → get new n.0 ≡ Some (record row { next = next })
  pub others : (key : ℕ) → at ≢ Some (record { 0 = key }) → get new key ≡ get old key

-- the same of the row in front of it
pub record PreviousIs (old new : Slab TimerRow) (at previous : Option RowNumber) : Type 0 where
  pub changed : (n : RowNumber) (row : TimerRow) → at ≡ Some n → get old n.0 ≡ Some row → get new n.0 ≡ Some (record row { previous = previous })
  pub others : (key : ℕ) → at ≢ Some (record { 0 = key }) → get new key ≡ get old key

-- the row that is known to be due first, or is remembered as that
abbrev pub known_least : ListHead → Option RowNumber
known_least head = if head.is_rising then head.first else head.least

-- the row that is due first when one is put behind the others, if it was known before
abbrev pub IsLeastWith : Slab TimerRow → Option RowNumber → RowNumber → ℕ → Option RowNumber → Type 0
IsLeastWith rows known number due after =
    MatchOption known (after ≡ None) (λ n. (row : TimerRow) → get rows n.0 ≡ Some row → after ≡ Some (if nat_lt due row.due then number else n))

-- what is remembered, unless it is the row of this number
abbrev pub other_than : ℕ → Option RowNumber → Option RowNumber
other_than key None = None
other_than key (Some n) = if n.0 == key then None else Some n

-- of two timers, either of which may be wanting, the one that is due first, at a tie the first one
abbrev pub sooner : Option Timer → Option Timer → Option Timer
sooner None u = u
sooner (Some t) u = Some (earlier t u)

-- the timer of a row by its number
abbrev pub timer_at : Slab TimerRow → RowNumber → Option Timer
timer_at rows number = option_map (timer_of number.0) (get rows number.0)
