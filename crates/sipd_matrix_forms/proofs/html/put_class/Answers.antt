use Rattle.std.proofs.Common.{ℕ, List, ◌++◌, ◌∙◌, ap, codes, None}
use Rattle.std.specs.List.{flat_map}
use Rattle.std.proofs.lemmas.Result.{on_ok_weaker}
use Rattle.sip_matrix.specs.declared.column.Column.{Column}
use Rattle.sipd_matrix_forms.specs.Html.{data_cell, target_cell, user_cell}
use Rattle.sipd_matrix_forms.proofs.Written.{five_parts}
use Rattle.sipd_matrix_forms.proofs.html.put_class.Goals as goal

pub returns : goal.returns
returns c =
    let matrix = c.args.matrix.now in
    let config = matrix.config.now in
    let operation = matrix.operation.now in
    let table = matrix.table.now in
    let class = c.args.class.now in
    let users = user_cell config operation table.columns class c.args.piece in
    on_ok_weaker c.extend-2.result
    (λ h. five_parts c.args.text.now (codes "<tr>") (data_cell config operation table.columns class c.args.piece None)
    (flat_map users table.rows) (target_cell config table.columns class) (codes "</tr>\n")
    c.extend.new.self c.put_data.new.text c.put_users_data.new.text c.put_target.new.text c.extend-2.new.self
    c.in_ok-extend.ensures.ok
    c.in_ok-put_data.ensures
    (c.in_ok-put_users_data.ensures ∙ ap (λ (rows : List (List ℕ)). c.put_data.new.text ++ flat_map users rows) c.as_slice-rows.ensures)
    (c.in_ok-put_target.ensures ∙ ap (λ (columns : List Column). c.put_users_data.new.text ++ target_cell config columns class) c.as_slice-columns.ensures)
    h) c.extend-2.ensures.ok
