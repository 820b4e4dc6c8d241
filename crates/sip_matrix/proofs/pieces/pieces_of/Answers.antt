use Rattle.std.proofs.Common.{List, ℕ, ◌∷◌, ◌++◌, [], ap, ◌∙◌, if◌then◌else◌}
use Rattle.sip_matrix.specs.Day.{begins_piece}
use Rattle.sip_matrix.proofs.Minutes.{no_pieces, piece_more}
use Rattle.sip_matrix.proofs.pieces.pieces_of.Goals as goal

pub loop-minute-init : goal.loop-minute-init
loop-minute-init c = c.new-pieces.ensures ∙ no_pieces c.args.rules.now

pub loop-minute-preserved : goal.loop-minute-preserved
loop-minute-preserved c =
    let rules = c.args.rules.now in
    let minute = c.loop-minute.minute in
    c.in_ok-add_piece.ensures
    ∙ ap (λ (pieces : List ℕ). if begins_piece rules minute then pieces ++ minute ∷ [] else pieces) c.loop-minute.invariant
    ∙ piece_more rules minute
