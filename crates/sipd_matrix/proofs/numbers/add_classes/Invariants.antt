use Rattle.std.proofs.Common.{◌≡◌, ◌++◌, take}
use Rattle.std.specs.List.{flat_map}
use Rattle.sipd_matrix.specs.Cells.{numbers_of_class}
use Rattle.sipd_matrix.proofs.numbers.add_classes.Given as goal

-- the numbers so far are there
abbrev pub invariant-loop-class : goal.invariant-loop-class
invariant-loop-class l = l.numbers ≡ l.fn.numbers
    ++ flat_map (numbers_of_class l.matrix.config.now l.matrix.operation.now l.matrix.table.now l.piece) (take l.class-index l.classes)
