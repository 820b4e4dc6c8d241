use Rattle.std.proofs.Common.{◌≡◌, ◌++◌, take}
use Rattle.std.specs.List.{flat_map}
use Rattle.sipd_matrix_changes.specs.Lines.{class_lines}
use Rattle.sipd_matrix_changes.proofs.lines.put_classes.Given as goal

-- the lines so far are written
abbrev pub invariant-loop-class : goal.invariant-loop-class
invariant-loop-class l = l.text ≡ l.fn.text
    ++ flat_map (class_lines l.change.old.now l.change.new.now l.change.operation.now l.change.table.now l.piece) (take l.class-index l.classes)
