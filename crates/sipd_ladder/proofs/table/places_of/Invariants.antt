use Rattle.std.proofs.Common.{◌≡◌, drop}
use Rattle.sipd_ladder.specs.Table.{places_behind, places_of}
use Rattle.sipd_ladder.proofs.table.places_of.Given as goal

-- the rungs that are left make of the places what all make
abbrev pub invariant-loop-rung : goal.invariant-loop-rung
invariant-loop-rung l = places_behind l.places (drop l.rung-index l.rungs) ≡ places_of l.rungs
