use Rattle.std.proofs.Common.{◌≡◌, ◌++◌, take}
use Rattle.std.specs.List.{flat_map}
use Rattle.sipd_ask.specs.Show.{row_line}
use Rattle.sipd_ask.proofs.showing.put_rows.Given as goal

-- the lines so far are written
abbrev pub invariant-loop-row : goal.invariant-loop-row
invariant-loop-row l = l.text ≡ l.fn.text ++ flat_map row_line (take l.row-index l.rows)
