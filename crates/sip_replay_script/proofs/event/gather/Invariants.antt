use Rattle.std.proofs.Common.{◌≡◌, ◌≤◌, length}
use Rattle.sip_replay_script.specs.Devices.{later}
use Rattle.sip_replay_script.specs.Lines.{left}
use Rattle.sip_replay_script.specs.declared.gathered.TheConstants.{KEPT}
use Rattle.sip_replay_script.proofs.Datagrams.{Gathers}
use Rattle.sip_replay_script.proofs.event.gather.Given as goal

-- the bytes so far are what the lines so far say
abbrev pub invariant-loop-line : goal.invariant-loop-line
invariant-loop-line g l =
    (length l.bytes ≤ KEPT) × (left l.lines ≤ left l.fn.lines)
    × Gathers l.fn.lines l.lines (g.R.TellingReader.remaining l.fn.reader) (g.R.TellingReader.remaining l.reader) l.bytes
    × (l.lines.asks ≤ l.fn.lines.asks)
    × (later l.lines.asks (g.R.TellingReader.asked l.reader) ≡ later l.fn.lines.asks (g.R.TellingReader.asked l.fn.reader))

abbrev pub decreases-loop-line : goal.decreases-loop-line
decreases-loop-line g l = left l.lines
