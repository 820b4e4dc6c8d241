-- The clock of an office that was set to another offset meanwhile.
use Rattle.std.specs.Prelude.{ℕ, ℤ, nat_le, if◌then◌else◌, List, [], ◌∷◌}
use Rattle.sipd_report.specs.declared.zone.Zone.{Zone}

-- how far the clock is ahead at a moment, if the zone began by then, and else as it was without it
abbrev pub offset_behind : Zone → ℤ → ℕ → ℤ
offset_behind zone offset at = if nat_le zone.since at then zone.offset else offset

-- how far it is ahead at a moment: by the last zone that began by then; where none did, as it is without them
abbrev pub offset_at : List Zone → ℤ → ℕ → ℤ
offset_at [] offset at = offset
offset_at (zone ∷ zones) offset at = offset_at zones (offset_behind zone offset at) at
