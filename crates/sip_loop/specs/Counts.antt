-- How often a link was asked.
use Rattle.std.specs.Prelude.{ℕ, zero, suc, ◌≡◌, ◌≤◌}
use Rattle.sip_transport.specs.Told.{counted}

-- so many more
abbrev pub counted_times : ℕ → ℕ → ℕ
counted_times zero count = count
counted_times (suc times) count = counted (counted_times times count)

-- so many more at most
pub record IsAskedWithin (most old new : ℕ) : Type 0 where
  pub times : ℕ
  pub within : times ≤ most
  pub is : new ≡ counted_times times old
