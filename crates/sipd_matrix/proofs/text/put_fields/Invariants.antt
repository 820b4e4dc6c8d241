use Rattle.std.proofs.Common.{◌≡◌, ◌++◌, take}
use Rattle.std.specs.List.{flat_map}
use Rattle.sipd_matrix.specs.Text.{field_text}
use Rattle.sipd_matrix.proofs.text.put_fields.Given as goal

-- the cells so far are written
abbrev pub invariant-loop-row : goal.invariant-loop-row
invariant-loop-row l = l.text ≡ l.fn.text
    ++ flat_map (field_text l.matrix.config.now l.matrix.operation.now l.matrix.table.now.columns l.class l.piece) (take l.row-index l.rows)
