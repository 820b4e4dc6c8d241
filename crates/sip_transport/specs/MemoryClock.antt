-- A clock over memory.
use Rattle.std.specs.Prelude.{ℕ, zero, suc, Bool, List, [], ◌∷◌, Option, None, Some, if◌then◌else◌}

-- what a clock over memory is seen as: the readings that it gives, how often it was read, and what it tells of that
pub record ClockState : Type 0 where
  pub list : List ℕ
  pub reads : ℕ
  pub readings : Option (List ℕ)

-- the reading of that number, from 0: that of the list, past its end the last one again, and the other one where there is none
abbrev pub reading_at : ℕ → List ℕ → ℕ → ℕ
reading_at other [] n = other
reading_at other (reading ∷ list) zero = reading
reading_at other (reading ∷ list) (suc n) = reading_at reading list n

-- so many readings, from the first one
abbrev pub readings_of : ℕ → List ℕ → ℕ → List ℕ
readings_of other list zero = []
readings_of other [] (suc n) = other ∷ readings_of other [] n
readings_of other (reading ∷ list) (suc n) = reading ∷ readings_of reading list n

-- these readings, unless there were more than can be counted
abbrev pub told_readings : Bool → List ℕ → Option (List ℕ)
told_readings is_past list = if is_past then None else Some list
