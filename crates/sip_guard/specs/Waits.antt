-- How long a link is waited on before a turn.
use Rattle.std.specs.Prelude.{ℕ, ◌-◌, min, max, Option, Some, None}

-- the longest wait, in milliseconds (this project's profile)
abbrev pub longest : ℕ
longest = 1000

-- the milliseconds from a moment until something is due, at least one and no more than the longest wait
abbrev pub wait_before : Option ℕ → ℕ → ℕ
wait_before (Some due) now = max 1 (min longest (due - now))
wait_before None now = longest
