-- The runtime's clock: it starts at the later one of what the wall clock says and of the least moment that it may tell, and goes on
-- by what has passed since, as the monotonic clock says.
use Rattle.std.specs.Prelude.{ℕ, ◌+◌, ◌-◌, max, min, Option, None, Some}
use Rattle.sip_transport.specs.Told.{most}

-- what such a clock is seen as, in milliseconds: what the wall clock said at the start, where it could be read; the least moment;
-- and how much has passed, at most, of what the monotonic clock said
pub record SteadyState : Type 0 where
  pub wall : Option ℕ
  pub least : ℕ
  pub passed : ℕ

-- the moment at which it starts: what the wall clock said, or the least moment, where that is later or nothing was said
abbrev pub start_moment : Option ℕ → ℕ → ℕ
start_moment None least = least
start_moment (Some wall) least = max wall least

-- the moment when so much has passed since; 2^64 - 1 is the last one
abbrev pub moment_after : Option ℕ → ℕ → ℕ → ℕ
moment_after wall least passed = min (start_moment wall least + passed) most

-- its latest reading, before any its start
abbrev pub reading_of : SteadyState → ℕ
reading_of clock = moment_after clock.wall clock.least clock.passed

-- by how much the wall clock was behind the least moment
abbrev pub behind_by : Option ℕ → ℕ → ℕ
behind_by None least = 0
behind_by (Some wall) least = least - wall
