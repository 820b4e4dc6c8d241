use Rattle.std.proofs.Common.{◌≡◌}
use Rattle.sip_matrix.specs.Day.{pieces_below}
use Rattle.sip_matrix.proofs.pieces.pieces_of.Given as goal

-- the pieces so far
abbrev pub invariant-loop-minute : goal.invariant-loop-minute
invariant-loop-minute l = l.pieces ≡ pieces_below l.rules l.minute
