use Rattle.sipd_tools.specs.Clocks.{HasZonesOf}
use Rattle.sipd_tools.proofs.clocks.zones_in.Given as goal

-- the zones of the records so far
abbrev pub invariant-loop-path : goal.invariant-loop-path
invariant-loop-path g l = HasZonesOf l.path-index l.zones.items
