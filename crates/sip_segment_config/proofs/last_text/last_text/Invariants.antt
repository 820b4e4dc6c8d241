use Rattle.std.proofs.Common.{◌≡◌, ◌≤◌}
use Rattle.sip_replay_script.specs.Devices.{later}
use Rattle.sip_replay_script.specs.Lines.{left, pending}
use Rattle.sip_segment_config.proofs.SoFar.{SoFar}
use Rattle.sip_segment_config.proofs.last_text.last_text.Given as goal

-- the parts so far, and the last configuration among them
abbrev pub invariant-parts : goal.invariant-parts
invariant-parts g l =
    SoFar l.longest (pending l.initial.lines (g.I.TellingReader.remaining l.initial.reader)) (pending l.lines (g.I.TellingReader.remaining l.reader))
    l.initial.lines.number l.lines.number l.last
    × (later l.lines.asks (g.I.TellingReader.asked l.reader) ≡ later l.initial.lines.asks (g.I.TellingReader.asked l.initial.reader))
    × (l.lines.asks ≤ l.initial.lines.asks)

abbrev pub decreases-parts : goal.decreases-parts
decreases-parts g l = left l.lines
