use Rattle.std.proofs.Common.{◌≡◌, ◌++◌, replicate}
use Rattle.sipd_report.proofs.cells.push_spaces.Given as goal

-- so many spaces were added
abbrev pub invariant-loop : goal.invariant-loop
invariant-loop l = l.row ≡ l.fn.row ++ replicate l.counter 32
