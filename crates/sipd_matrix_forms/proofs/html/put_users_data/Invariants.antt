use Rattle.std.proofs.Common.{◌≡◌, ◌++◌, take}
use Rattle.std.specs.List.{flat_map}
use Rattle.sipd_matrix_forms.specs.Html.{user_cell}
use Rattle.sipd_matrix_forms.proofs.html.put_users_data.Given as goal

-- what is written so far
abbrev pub invariant-loop-row : goal.invariant-loop-row
invariant-loop-row l = l.text ≡ l.fn.text
    ++ flat_map (user_cell l.matrix.config.now l.matrix.operation.now l.matrix.table.now.columns l.class l.piece) (take l.row-index l.rows)
