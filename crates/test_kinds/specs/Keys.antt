-- Keys that are kept of timers.
use Rattle.std.specs.Prelude.{ℕ, ◌≤◌, ◌==◌, not, List, count_by, filter}
use Rattle.sip_timers.specs.declared.timer.Timer.{Timer}
use Rattle.sip_timers.specs.Timers.{keys_with}
use Rattle.test_kinds.specs.declared.keyed.KeyedRow.{KeyedRow}

-- how often a key is kept
abbrev pub times_kept : ℕ → List KeyedRow → ℕ
times_kept key kept = count_by (λ k. k.key == key) kept

-- what is kept without a key
abbrev pub without_key : ℕ → List KeyedRow → List KeyedRow
without_key key kept = filter (λ k. not (k.key == key)) kept

-- each key that is kept is that of a timer that stands
abbrev pub AreKeysOf : List KeyedRow → List Timer → Type 0
AreKeysOf kept timers = (key : ℕ) → times_kept key kept ≤ keys_with key timers
