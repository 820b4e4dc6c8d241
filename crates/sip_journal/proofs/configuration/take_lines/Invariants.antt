use Rattle.std.proofs.Common.{◌≡◌, ◌≤◌, length}
use Rattle.sip_replay_script.specs.Devices.{later}
use Rattle.sip_replay_script.specs.Lines.{left}
use Rattle.sip_journal.proofs.Configurations.{Taken}
use Rattle.sip_journal.proofs.configuration.take_lines.Given as goal

-- the lines so far gave the text
abbrev pub invariant-loop-line : goal.invariant-loop-line
invariant-loop-line g l =
    Taken l.initial.lines l.lines (g.R.TellingReader.remaining l.initial.reader) (g.R.TellingReader.remaining l.reader) l.text × (length l.text ≤ l.longest)
    × (l.lines.asks ≤ l.initial.lines.asks)
    × (later l.lines.asks (g.R.TellingReader.asked l.reader) ≡ later l.initial.lines.asks (g.R.TellingReader.asked l.initial.reader))

abbrev pub decreases-loop-line : goal.decreases-loop-line
decreases-loop-line g l = left l.lines
