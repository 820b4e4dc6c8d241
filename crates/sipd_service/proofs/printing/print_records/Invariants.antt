use Rattle.std.proofs.Common.{take}
use Rattle.std.specs.Io.KnownBytes.{Appends}
use Rattle.sip_loop.specs.Printing.{lines_of}
use Rattle.sipd_service.proofs.printing.print_records.Given as goal

abbrev pub invariant-loop-record : goal.invariant-loop-record
invariant-loop-record g l = Appends (g.W.Write.contents l.initial.output) (g.W.Write.contents l.output) (lines_of (take l.record-index l.records))
