use Rattle.std.proofs.Common.{◌≡◌, ◌++◌, length}
use Rattle.sipd_capture.specs.Hiding.{hidden, hidden_from}
use Rattle.sipd_capture.proofs.hiding.hidden.Given as goal

-- what was written, with the rest hidden, is the whole
abbrev pub invariant-loop-line : goal.invariant-loop-line
invariant-loop-line l = l.out ++ hidden_from l.place l.rest ≡ hidden l.fn.bytes

abbrev pub decreases-loop-line : goal.decreases-loop-line
decreases-loop-line l = length l.rest
