use Rattle.std.proofs.Common.{ℕ, List, ◌++◌, ◌∙◌, ap}
use Rattle.sipd_matrix.proofs.Written.{one_more}
use Rattle.sipd_matrix_changes.specs.Lines.{user_lines}
use Rattle.sipd_matrix_changes.proofs.lines.put_rows.Goals as goal

pub loop-row-preserved : goal.loop-row-preserved
loop-row-preserved c =
    let change = c.args.change.now in
    let lines = user_lines change.old.now change.new.now change.operation.now change.table.now c.args.piece c.args.class.now in
    one_more lines c.args.rows.now c.loop-row.row-index c.row-item.result c.args.text.now c.loop-row.text c.put_both_of.new.text
    c.loop-row-test.true c.row-item.is c.loop-row.invariant
    (c.in_ok-put_both_of.ensures ∙ ap (λ (row : List ℕ). c.loop-row.text ++ lines row) c.as_slice.ensures)
