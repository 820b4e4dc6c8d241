use Rattle.std.proofs.Common.{◌≡◌, ◌++◌}
use Rattle.sipd_ladder.specs.Drawing.{cells_to}
use Rattle.sipd_ladder.proofs.drawing.push_gaps.Given as goal

-- so many gaps were added
abbrev pub invariant-loop-gap : goal.invariant-loop-gap
invariant-loop-gap l = l.out ≡ l.fn.out ++ cells_to l.arrow l.word l.gap
