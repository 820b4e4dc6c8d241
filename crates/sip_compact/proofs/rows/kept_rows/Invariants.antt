use Rattle.std.proofs.Common.{take}
use Rattle.sip_compact.specs.Parts.{places_of, IsPart}
use Rattle.sip_compact.proofs.rows.kept_rows.Given as goal

-- those so far are of those so far
abbrev pub invariant-loop-at : goal.invariant-loop-at
invariant-loop-at l = IsPart (places_of l.kept.items) (places_of (take l.at l.rows))
