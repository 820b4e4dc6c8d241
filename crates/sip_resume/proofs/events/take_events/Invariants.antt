use Rattle.std.proofs.Common.{◌≡◌, ◌≤◌}
use Rattle.sip_run.specs.Due.{standing_of}
use Rattle.sip_replay_script.specs.Devices.{later}
use Rattle.sip_replay_script.specs.Lines.{left, pending}
use Rattle.sip_resume.specs.Parts.{TakesEvents}
use Rattle.sip_resume.specs.Outputs.{outputs_of}
use Rattle.sip_resume.proofs.events.take_events.Given as goal

abbrev pub invariant-events : goal.invariant-events
invariant-events g l =
    (l.engine.server ≡ l.initial.engine.server)
    × TakesEvents l.initial.engine.server (standing_of l.initial.engine) (standing_of l.engine) (pending l.initial.lines (g.I.TellingReader.remaining l.initial.reader))
    (pending l.lines (g.I.TellingReader.remaining l.reader)) l.initial.lines.number l.taken
    (outputs_of (g.J.Journal.written l.initial.journal) (g.S.StepSink.shown l.initial.sink)) (outputs_of (g.J.Journal.written l.journal) (g.S.StepSink.shown l.sink))
    l.last
    × (l.taken ≡ l.lines.number)
    × (later l.lines.asks (g.I.TellingReader.asked l.reader) ≡ later l.initial.lines.asks (g.I.TellingReader.asked l.initial.reader))
    × (g.J.Journal.faulted l.journal ≡ g.J.Journal.faulted l.initial.journal)
    × (left l.lines ≤ left l.initial.lines)
    × (l.lines.asks ≤ l.initial.lines.asks)
    × (l.engine.secrets ≡ l.initial.engine.secrets)

abbrev pub decreases-events : goal.decreases-events
decreases-events g l = left l.lines
