use Rattle.std.proofs.Common.{length}
use Rattle.sip_message.specs.Stands.{AreStanding}
use Rattle.sip_message.proofs.HeadFills.{IsFilledSoFar}
use Rattle.sip_message.proofs.filling.filling_of_head.Given as goal

-- the lines that were read, and what the rest gives; and how the lines stand
abbrev pub invariant-by_lines : goal.invariant-by_lines
invariant-by_lines l = IsFilledSoFar l.initial.rest.bytes.now l.filling l.rest.bytes.now × AreStanding l.run l.initial.rest.bytes.now l.filling.fields l.rest.bytes.now

abbrev pub decreases-by_lines : goal.decreases-by_lines
decreases-by_lines l = length l.rest.bytes.now
