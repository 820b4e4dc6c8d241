use Rattle.std.proofs.Common.{length}
use Rattle.sip_message.proofs.Wholes.{GoesOn}
use Rattle.sip_message.proofs.lines.whole_line.Given as goal

abbrev pub invariant-loop-alloc : goal.invariant-loop-alloc
invariant-loop-alloc l = GoesOn l.initial.whole l.initial.rest.bytes l.whole l.rest.bytes

abbrev pub decreases-loop-alloc : goal.decreases-loop-alloc
decreases-loop-alloc l = length l.rest.bytes.now
