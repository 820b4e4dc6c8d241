use Rattle.std.proofs.Common.{◌≡◌, ◌≤◌}
use Rattle.std.specs.Io.KnownBytes.{Consumes}
use Rattle.sip_replay_script.specs.Devices.{later}
use Rattle.sip_replay_script.specs.Lines.{IsLine, pending, left}
use Rattle.sip_replay_script.proofs.lines.ScriptLines.next.Given as goal

-- the line so far is what the script lost
abbrev pub invariant-loop-line : goal.invariant-loop-line
invariant-loop-line g l =
    Consumes (pending l.initial.self (g.R.TellingReader.remaining l.initial.reader)) (pending l.self (g.R.TellingReader.remaining l.reader)) l.line.items
    × IsLine l.line.items × (l.self.number ≡ l.initial.self.number) × (left l.self ≤ left l.initial.self) × (l.self.asks ≤ l.initial.self.asks)
    × (later l.self.asks (g.R.TellingReader.asked l.reader) ≡ later l.initial.self.asks (g.R.TellingReader.asked l.initial.reader))

abbrev pub decreases-loop-line : goal.decreases-loop-line
decreases-loop-line g l = left l.self
