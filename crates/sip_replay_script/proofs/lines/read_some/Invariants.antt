use Rattle.std.proofs.Common.{◌≡◌, ◌≤◌, vec_len}
use Rattle.std.specs.Io.KnownBytes.{Keeps}
use Rattle.sip_replay_script.specs.Devices.{later}
use Rattle.sip_replay_script.proofs.lines.read_some.Given as goal

abbrev pub invariant-loop-asks : goal.invariant-loop-asks
invariant-loop-asks g l =
    Keeps (g.R.TellingReader.remaining l.initial.reader) (g.R.TellingReader.remaining l.reader) × (vec_len l.buffer ≡ vec_len l.initial.buffer)
    × (l.asks ≤ l.initial.asks)
    × (later l.asks (g.R.TellingReader.asked l.reader) ≡ later l.initial.asks (g.R.TellingReader.asked l.initial.reader))

abbrev pub decreases-loop-asks : goal.decreases-loop-asks
decreases-loop-asks g l = l.asks
