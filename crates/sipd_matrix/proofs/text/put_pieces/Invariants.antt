use Rattle.std.proofs.Common.{◌≡◌, ◌++◌, take}
use Rattle.std.specs.List.{flat_map}
use Rattle.sipd_matrix.specs.Text.{piece_lines}
use Rattle.sipd_matrix.proofs.text.put_pieces.Given as goal

-- the pieces so far are written
abbrev pub invariant-loop-piece : goal.invariant-loop-piece
invariant-loop-piece l = l.text ≡ l.fn.text
    ++ flat_map (piece_lines l.matrix.config.now l.matrix.operation.now l.matrix.table.now) (take l.piece-index l.pieces)
