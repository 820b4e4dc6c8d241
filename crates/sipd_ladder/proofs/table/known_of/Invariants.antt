use Rattle.std.proofs.Common.{◌≡◌, drop}
use Rattle.sipd_ladder.specs.Table.{known_behind}
use Rattle.sipd_ladder.proofs.table.known_of.Given as goal

-- the number so far, and the rungs that are left, decide
abbrev pub invariant-loop-rung : goal.invariant-loop-rung
invariant-loop-rung l = known_behind l.found (drop l.rung-index l.rungs) ≡ known_behind 0 l.rungs
