use Rattle.std.proofs.Common.{◌≡◌, ◌≤◌, take, length}
use Rattle.std.specs.Io.KnownBytes.{Appends}
use Rattle.sip_replay_script.specs.Devices.{later}
use Rattle.sip_replay_script.proofs.writing.put_parts.Given as goal

abbrev pub invariant-loop-tries : goal.invariant-loop-tries
invariant-loop-tries g l = Appends (g.W.TellingWriter.contents l.initial.writer) (g.W.TellingWriter.contents l.writer) (take l.done l.text) × (l.done ≤ length l.text)
    × (g.W.TellingWriter.called l.writer ≡ later l.tries (g.W.TellingWriter.called l.initial.writer))
