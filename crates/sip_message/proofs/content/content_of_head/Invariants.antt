use Rattle.std.proofs.Common.{length}
use Rattle.sip_message.proofs.HeadLines.{IsReadSoFar}
use Rattle.sip_message.proofs.content.content_of_head.Given as goal

-- the lines that were read, and what the rest gives
abbrev pub invariant-loop-line : goal.invariant-loop-line
invariant-loop-line l = IsReadSoFar l.initial.rest.bytes l.content l.rest.bytes

abbrev pub decreases-loop-line : goal.decreases-loop-line
decreases-loop-line l = length l.rest.bytes.now
