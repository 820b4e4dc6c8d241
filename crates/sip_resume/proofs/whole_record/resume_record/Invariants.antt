use Rattle.std.proofs.Common.{◌≡◌, ◌+◌, ◌≤◌, cond}
use Rattle.sip_replay_script.specs.Devices.{later}
use Rattle.sip_replay_script.specs.Lines.{left}
use Rattle.sip_resume.specs.Outputs.{outputs_of}
use Rattle.sip_resume.proofs.Wholly.{RecordSoFar}
use Rattle.sip_resume.proofs.whole_record.resume_record.Given as goal

abbrev pub invariant-segments : goal.invariant-segments
invariant-segments g l =
    RecordSoFar l.fn.engine l.engine l.fn.lines l.lines (g.I.TellingReader.remaining l.fn.reader) (g.I.TellingReader.remaining l.reader)
    (outputs_of (g.J.Journal.written l.fn.journal) (g.S.StepSink.shown l.fn.sink)) (outputs_of (g.J.Journal.written l.journal) (g.S.StepSink.shown l.sink))
    l.reached.lines l.reached.last l.reached.is_over
    × (later l.lines.asks (g.I.TellingReader.asked l.reader) ≡ later l.fn.lines.asks (g.I.TellingReader.asked l.fn.reader))
    × (g.J.Journal.faulted l.journal ≡ g.J.Journal.faulted l.fn.journal)
    × (l.lines.asks ≤ l.fn.lines.asks)
    × (l.engine.secrets ≡ l.fn.engine.secrets)

abbrev pub decreases-segments : goal.decreases-segments
decreases-segments g l = cond l.reached.is_over 0 (left l.lines + 1)
