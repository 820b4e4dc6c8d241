use Rattle.std.proofs.Common.{◌≡◌, ◌++◌, replicate}
use Rattle.sipd_ladder.proofs.drawing.push_spaces.Given as goal

-- so many spaces were added
abbrev pub invariant-loop : goal.invariant-loop
invariant-loop l = l.out ≡ l.fn.out ++ replicate l.counter 32
