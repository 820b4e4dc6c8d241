use Rattle.std.proofs.Common.{take}
use Rattle.std.specs.List.{flat_map}
use Rattle.std.specs.Io.KnownBytes.{Appends}
use Rattle.sip_replay_print.specs.Print.{audit_text}
use Rattle.sip_replay_print.proofs.print.print_records.Given as goal

abbrev pub invariant-loop-record : goal.invariant-loop-record
invariant-loop-record g l = Appends (g.W.TellingWriter.contents l.initial.writer) (g.W.TellingWriter.contents l.writer)
    (flat_map audit_text (take l.record-index l.records))
