use Rattle.std.proofs.Common.{◌≡◌, length}
use Rattle.sipd_start.specs.StackLimit.{small_stack}
use Rattle.sipd_start.proofs.stack_limit.small_stack.Given as goal

-- what the rest says is what the whole says
abbrev pub invariant-loop-line : goal.invariant-loop-line
invariant-loop-line l = small_stack l.rest ≡ small_stack l.fn.limits

abbrev pub decreases-loop-line : goal.decreases-loop-line
decreases-loop-line l = length l.rest
