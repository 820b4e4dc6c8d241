use Rattle.std.proofs.Common.{◌≡◌, ◌++◌, take}
use Rattle.std.specs.List.{flat_map}
use Rattle.sipd_standing.specs.PhoneTable.{rows_of}
use Rattle.sipd_standing.proofs.phone_table.push_rows.Given as goal

-- the addresses so far are written
abbrev pub invariant-loop-row : goal.invariant-loop-row
invariant-loop-row g l = l.out ≡ l.fn.out ++ flat_map (rows_of l.form l.engine.state l.at) (take l.row-index l.rows)
