use Rattle.std.proofs.Common.{◌≡◌, length}
use Rattle.sipd_status.specs.Memory.{memory_said}
use Rattle.sipd_status.proofs.memory.memory_said.Given as goal

-- what the rest says is what the whole says
abbrev pub invariant-loop-line : goal.invariant-loop-line
invariant-loop-line l = memory_said l.rest ≡ memory_said l.fn.text

abbrev pub decreases-loop-line : goal.decreases-loop-line
decreases-loop-line l = length l.rest
