use Rattle.std.proofs.Common.{ℕ, List, ◌++◌, ◌∙◌, ap, codes}
use Rattle.std.specs.List.{flat_map}
use Rattle.std.proofs.lemmas.Result.{on_ok_weaker}
use Rattle.sipd_matrix_forms.specs.Html.{head_cell}
use Rattle.sipd_matrix_forms.proofs.Written.{three_parts}
use Rattle.sipd_matrix_forms.proofs.html.put_head.Goals as goal

pub returns : goal.returns
returns c =
    on_ok_weaker c.extend-2.result
    (λ h. three_parts c.args.text.now (codes "<tr><th>nobody</th>") (flat_map head_cell c.args.table.now.rows) (codes "<th>asks for</th></tr>\n")
    c.extend.new.self c.put_head_cells.new.text c.extend-2.new.self c.in_ok-extend.ensures.ok
    (c.in_ok-put_head_cells.ensures ∙ ap (λ (rows : List (List ℕ)). c.extend.new.self ++ flat_map head_cell rows) c.as_slice.ensures) h) c.extend-2.ensures.ok
