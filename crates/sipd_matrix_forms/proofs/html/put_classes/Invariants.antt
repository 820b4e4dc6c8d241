use Rattle.std.proofs.Common.{◌≡◌, ◌++◌, take}
use Rattle.std.specs.List.{flat_map}
use Rattle.sipd_matrix_forms.specs.Html.{class_row}
use Rattle.sipd_matrix_forms.proofs.html.put_classes.Given as goal

-- what is written so far
abbrev pub invariant-loop-class : goal.invariant-loop-class
invariant-loop-class l = l.text ≡ l.fn.text
    ++ flat_map (class_row l.matrix.config.now l.matrix.operation.now l.matrix.table.now l.piece) (take l.class-index l.classes)
