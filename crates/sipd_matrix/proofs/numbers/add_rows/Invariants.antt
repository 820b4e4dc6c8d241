use Rattle.std.proofs.Common.{◌≡◌, ◌++◌, take}
use Rattle.std.specs.List.{flat_map}
use Rattle.sipd_matrix.specs.Cells.{numbers_of_row}
use Rattle.sipd_matrix.proofs.numbers.add_rows.Given as goal

-- the numbers so far are there
abbrev pub invariant-loop-row : goal.invariant-loop-row
invariant-loop-row l = l.numbers ≡ l.fn.numbers
    ++ flat_map (numbers_of_row l.matrix.config.now l.matrix.operation.now l.matrix.table.now.columns l.class l.piece) (take l.row-index l.rows)
