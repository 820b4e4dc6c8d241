-- Minutes of the day, and when a rule holds (this project's profile).
use Rattle.std.specs.Prelude.{ℕ, Bool, true, ◌+◌, ◌/◌, ◌%◌, ◌&&◌, ◌||◌, nat_lt, nat_le, if◌then◌else◌, ℤ, pos, ◌+ℤ◌, nat_abs, Option, Some, None}
use Rattle.sip_policy.specs.declared.window.Window.{Window}

-- The minute of the day at a moment, milliseconds since the start of 1970 in UTC, where local time is this many minutes ahead of
-- UTC: (now / 60000 + 1440 + offset) mod 1440.
-- An offset is -720 to 840, so the sum is above 0, and its absolute value is itself.
abbrev pub minute_of : ℕ → ℤ → ℕ
minute_of now offset = nat_abs (pos (now / 60000 + 1440) +ℤ offset) % 1440

-- whether a minute is in a window: from its first minute to before its last, over midnight where the first is above the last
abbrev pub is_within : ℕ → Window → Bool
is_within minute window =
    if nat_lt window.from window.until then nat_le window.from minute && nat_lt minute window.until
    else nat_le window.from minute || nat_lt minute window.until

-- whether a rule with such a window, or with none, holds at a minute
abbrev pub holds : ℕ → Option Window → Bool
holds minute None = true
holds minute (Some window) = is_within minute window
