use Rattle.std.proofs.Common.{◌≡◌, ◌++◌, take}
use Rattle.std.specs.List.{flat_map}
use Rattle.sipd_matrix.specs.Cells.{numbers_of_piece}
use Rattle.sipd_matrix.proofs.numbers.add_pieces.Given as goal

-- the numbers so far are there
abbrev pub invariant-loop-piece : goal.invariant-loop-piece
invariant-loop-piece l = l.numbers ≡ l.fn.numbers
    ++ flat_map (numbers_of_piece l.matrix.config.now l.matrix.operation.now l.matrix.table.now) (take l.piece-index l.pieces)
