-- Why nothing more is had of a reader.
use Rattle.std.specs.Prelude.{◌≡◌, ◌≤◌, ◌⊎◌, ◌-◌, ◌^◌, ℕ, Option}
use Rattle.sip_replay_script.specs.Devices.{later}

-- how often it is asked at most for one byte, as it may be interrupted, and for all that stands behind the first line of a record
abbrev pub most_asks : ℕ
most_asks = 2 ^ 32 - 1

-- it was asked so often meanwhile, or more often, where that is told
pub record WasAsked (least : ℕ) (before now : Option ℕ) : Type 0 where
  pub calls : ℕ
  pub many : least ≤ calls
  pub counted : now ≡ later calls before

-- it failed, or was asked so often
abbrev pub HasStopped : Type 0 → ℕ → Option ℕ → Option ℕ → Type 0
HasStopped has_failed asks before now = has_failed ⊎ WasAsked asks before now
