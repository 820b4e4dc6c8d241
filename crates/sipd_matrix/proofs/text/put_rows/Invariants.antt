use Rattle.std.proofs.Common.{◌≡◌, ◌++◌, take}
use Rattle.std.specs.List.{flat_map}
use Rattle.sipd_matrix.specs.Text.{row_line}
use Rattle.sipd_matrix.proofs.text.put_rows.Given as goal

-- the lines so far are written
abbrev pub invariant-loop-row : goal.invariant-loop-row
invariant-loop-row l = l.text ≡ l.fn.text ++ flat_map (row_line l.config) (take l.row-index l.rows)
