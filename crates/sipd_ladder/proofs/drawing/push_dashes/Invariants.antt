use Rattle.std.proofs.Common.{◌≡◌, ◌++◌}
use Rattle.sipd_ladder.specs.Drawing.{dashes}
use Rattle.sipd_ladder.proofs.drawing.push_dashes.Given as goal

-- so many dashes were added
abbrev pub invariant-loop : goal.invariant-loop
invariant-loop l = l.out ≡ l.fn.out ++ dashes l.counter
