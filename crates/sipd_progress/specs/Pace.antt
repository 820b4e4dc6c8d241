-- How far a reading is, and when that is said.
use Rattle.std.specs.Prelude.{ℕ, Bool, ◌+◌, ◌-◌, ◌^◌, min, nat_le, if◌then◌else◌, List, [], ◌++◌, codes, decimal, Option, Some, None}
use Rattle.sipd_progress.specs.declared.pace.Pace.{Pace}

-- a number, at most the greatest that a u64 holds
abbrev pub capped : ℕ → ℕ
capped n = min n (2 ^ 64 - 1)

-- a second behind a moment, in milliseconds
abbrev pub due_behind : ℕ → ℕ
due_behind moment = capped (moment + 1000)

-- nothing is read yet, and nothing said in the first second
abbrev pub begun_at : ℕ → Pace
begun_at moment = record { read = 0; due = due_behind moment }

-- whether it is said at a moment: a second passed since the last time
abbrev pub is_said : ℕ → Pace → Bool
is_said moment p = nat_le p.due moment

-- so many bytes more at a moment
abbrev pub read_more : ℕ → ℕ → Pace → Pace
read_more count moment p = record { read = capped (p.read + count); due = if is_said moment p then due_behind moment else p.due }

-- of how many, where that is known
abbrev pub whole_text : Option ℕ → List ℕ
whole_text None = []
whole_text (Some whole) = codes " of " ++ decimal whole

-- what is said
abbrev pub line_of : List ℕ → ℕ → Option ℕ → List ℕ
line_of what read whole = codes "sipd: " ++ what ++ codes ": " ++ decimal read ++ whole_text whole ++ codes " bytes are read"
