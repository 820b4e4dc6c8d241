use Rattle.std.proofs.Common.{◌≡◌, ◌++◌, take}
use Rattle.std.specs.List.{flat_map}
use Rattle.sipd_matrix_changes.specs.Lines.{piece_lines}
use Rattle.sipd_matrix_changes.proofs.lines.put_pieces.Given as goal

-- the lines so far are written
abbrev pub invariant-loop-piece : goal.invariant-loop-piece
invariant-loop-piece l = l.text ≡ l.fn.text
    ++ flat_map (piece_lines l.change.old.now l.change.new.now l.change.operation.now l.change.table.now) (take l.piece-index l.pieces)
