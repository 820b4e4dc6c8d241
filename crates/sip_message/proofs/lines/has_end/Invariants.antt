use Rattle.std.proofs.Common.{◌≡◌, false, length}
use Rattle.sip_message.specs.Lines.{lines_at}
use Rattle.sip_message.proofs.Wholes.{ends}
use Rattle.sip_message.proofs.lines.has_end.Given as goal

abbrev pub invariant-loop-line : goal.invariant-loop-line
invariant-loop-line l = ends (lines_at false l.rest.bytes.now) ≡ ends (lines_at false l.initial.rest.bytes.now)

abbrev pub decreases-loop-line : goal.decreases-loop-line
decreases-loop-line l = length l.rest.bytes.now
