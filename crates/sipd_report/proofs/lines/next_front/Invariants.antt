use Rattle.std.proofs.Common.{◌≡◌, ◌≤◌, ◌+◌, length}
use Rattle.sip_replay_script.specs.Devices.{later}
use Rattle.sip_replay_script.specs.Lines.{pending, left}
use Rattle.sipd_report.proofs.Ends.{Gathers}
use Rattle.sipd_report.proofs.lines.next_front.Given as goal

-- the line so far is what the input lost
abbrev pub invariant-parts : goal.invariant-parts
invariant-parts g l =
    Gathers (pending l.initial.lines (g.R.TellingReader.remaining l.initial.reader)) (pending l.lines (g.R.TellingReader.remaining l.reader)) l.line.items
    × (length l.line.items ≤ 200001) × (left l.lines + length l.line.items ≤ left l.initial.lines) × (l.lines.asks ≤ l.initial.lines.asks)
    × (later l.lines.asks (g.R.TellingReader.asked l.reader) ≡ later l.initial.lines.asks (g.R.TellingReader.asked l.initial.reader))

abbrev pub decreases-parts : goal.decreases-parts
decreases-parts g l = left l.lines
