use Rattle.std.proofs.Common.{◌≡◌, ◌++◌, take}
use Rattle.std.specs.List.{flat_map}
use Rattle.sipd_matrix_forms.specs.Html.{head_cell}
use Rattle.sipd_matrix_forms.proofs.html.put_head_cells.Given as goal

-- what is written so far
abbrev pub invariant-loop-row : goal.invariant-loop-row
invariant-loop-row l = l.text ≡ l.fn.text ++ flat_map (head_cell) (take l.row-index l.rows)
