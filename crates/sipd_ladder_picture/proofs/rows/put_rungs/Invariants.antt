use Rattle.std.proofs.Common.{◌≡◌, ◌++◌, take}
use Rattle.sipd_ladder_picture.specs.Rows.{rows_from}
use Rattle.sipd_ladder_picture.proofs.rows.put_rungs.Given as goal

-- the rungs so far are drawn
abbrev pub invariant-loop-row : goal.invariant-loop-row
invariant-loop-row l = l.out ≡ l.fn.out ++ rows_from l.first l.places 0 (take l.row l.rungs)
