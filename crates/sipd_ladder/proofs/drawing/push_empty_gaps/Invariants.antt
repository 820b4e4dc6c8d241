use Rattle.std.proofs.Common.{◌≡◌, ◌++◌}
use Rattle.sipd_ladder.specs.Drawing.{empty_gap, times}
use Rattle.sipd_ladder.proofs.drawing.push_empty_gaps.Given as goal

-- so many gaps were added
abbrev pub invariant-loop : goal.invariant-loop
invariant-loop l = l.out ≡ l.fn.out ++ times l.counter empty_gap
