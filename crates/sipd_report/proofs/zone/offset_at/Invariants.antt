use Rattle.std.proofs.Common.{◌≡◌, drop}
use Rattle.sipd_report.specs.Zones.{offset_at}
use Rattle.sipd_report.proofs.zone.offset_at.Given as goal

-- the zones that are left lead to it
abbrev pub invariant-loop-zone : goal.invariant-loop-zone
invariant-loop-zone l = offset_at (drop l.zone-index l.zones) l.ahead l.at ≡ offset_at l.zones l.offset l.at
