use Rattle.std.proofs.Common.{◌≡◌, ◌++◌, take}
use Rattle.std.specs.List.{flat_map}
use Rattle.sipd_ladder.specs.Table.{rung_row}
use Rattle.sipd_ladder.proofs.table.push_rungs.Given as goal

-- the rungs so far are written
abbrev pub invariant-loop-rung : goal.invariant-loop-rung
invariant-loop-rung l = l.out ≡ l.fn.out ++ flat_map (rung_row l.first l.places) (take l.rung-index l.rungs)
