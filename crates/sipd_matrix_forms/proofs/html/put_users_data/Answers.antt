use Rattle.std.proofs.Common.{ℕ, List, ◌++◌, ◌∙◌, ap}
use Rattle.sipd_matrix.proofs.Written.{one_more}
use Rattle.sipd_matrix_forms.specs.Html.{user_cell}
use Rattle.sipd_matrix_forms.proofs.html.put_users_data.Goals as goal

pub loop-row-preserved : goal.loop-row-preserved
loop-row-preserved c =
    let matrix = c.args.matrix.now in
    let cell = user_cell matrix.config.now matrix.operation.now matrix.table.now.columns c.args.class.now c.args.piece in
    one_more cell c.args.rows.now c.loop-row.row-index c.row-item.result c.args.text.now c.loop-row.text c.put_data.new.text
    c.loop-row-test.true c.row-item.is c.loop-row.invariant
    (c.in_ok-put_data.ensures ∙ ap (λ (row : List ℕ). c.loop-row.text ++ cell row) c.as_slice.ensures)
