use Rattle.std.proofs.Common.{◌≡◌, ◌++◌, take}
use Rattle.std.specs.List.{flat_map}
use Rattle.sipd_matrix_changes.specs.Lines.{user_lines}
use Rattle.sipd_matrix_changes.proofs.lines.put_rows.Given as goal

-- the lines so far are written
abbrev pub invariant-loop-row : goal.invariant-loop-row
invariant-loop-row l = l.text ≡ l.fn.text
    ++ flat_map (user_lines l.change.old.now l.change.new.now l.change.operation.now l.change.table.now l.piece l.class) (take l.row-index l.rows)
