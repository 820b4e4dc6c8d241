use Rattle.std.proofs.Common.{◌≡◌, ◌++◌, take}
use Rattle.std.specs.List.{flat_map}
use Rattle.sipd_matrix_forms.specs.Html.{piece_table}
use Rattle.sipd_matrix_forms.proofs.html.put_pieces.Given as goal

-- what is written so far
abbrev pub invariant-loop-piece : goal.invariant-loop-piece
invariant-loop-piece l = l.text ≡ l.fn.text
    ++ flat_map (piece_table l.level l.matrix.config.now l.matrix.operation.now l.matrix.table.now) (take l.piece-index l.pieces)
