use Rattle.std.proofs.Common.{take}
use Rattle.sip_compact.specs.Parts.{lines_in, places_of, IsPart}
use Rattle.sip_compact.proofs.choice.choices_of.Given as goal

-- what is named so far is of those so far
abbrev pub invariant-loop-at : goal.invariant-loop-at
invariant-loop-at l = IsPart (lines_in l.choices) (places_of (take l.at l.rows))
