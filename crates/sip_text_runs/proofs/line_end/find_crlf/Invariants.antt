use Rattle.std.proofs.Common.{◌-◌, length}
use Rattle.sip_text_runs.proofs.LineEnds.{NoneEnds}
use Rattle.sip_text_runs.proofs.line_end.find_crlf.Given as goal

abbrev pub invariant-loop-next : goal.invariant-loop-next
invariant-loop-next l = NoneEnds l.bytes l.from

abbrev pub decreases-loop-next : goal.decreases-loop-next
decreases-loop-next l = length l.bytes - l.from
