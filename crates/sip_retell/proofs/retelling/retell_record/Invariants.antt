use Rattle.std.proofs.Common.{◌≡◌, ◌≤◌}
use Rattle.sip_resume.specs.run.Due.{standing_of}
use Rattle.sip_replay_script.specs.Devices.{later}
use Rattle.sip_replay_script.specs.Lines.{left, pending}
use Rattle.sip_retell.specs.Retells.{TakesItems}
use Rattle.sip_retell.proofs.retelling.retell_record.Given as goal

abbrev pub invariant-items : goal.invariant-items
invariant-items g l =
    TakesItems g.L.Listener.hears l.initial.engine.server l.engine.server (standing_of l.initial.engine) (standing_of l.engine)
    (pending l.initial.lines (g.I.TellingReader.remaining l.initial.reader)) (pending l.lines (g.I.TellingReader.remaining l.reader)) l.initial.lines.number l.taken
    l.until l.initial.listener l.listener
    × (l.taken ≡ l.lines.number)
    × (later l.lines.asks (g.I.TellingReader.asked l.reader) ≡ later l.initial.lines.asks (g.I.TellingReader.asked l.initial.reader))
    × (l.lines.asks ≤ l.initial.lines.asks)
    × (l.engine.secrets ≡ l.initial.engine.secrets)

abbrev pub decreases-items : goal.decreases-items
decreases-items g l = left l.lines
