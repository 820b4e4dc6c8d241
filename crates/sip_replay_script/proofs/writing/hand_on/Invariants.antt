use Rattle.std.proofs.Common.{◌≡◌}
use Rattle.std.specs.Io.KnownBytes.{Keeps}
use Rattle.sip_replay_script.specs.Devices.{later}
use Rattle.sip_replay_script.proofs.writing.hand_on.Given as goal

abbrev pub invariant-loop-tries : goal.invariant-loop-tries
invariant-loop-tries g l = Keeps (g.W.TellingWriter.contents l.initial.writer) (g.W.TellingWriter.contents l.writer)
    × (g.W.TellingWriter.called l.writer ≡ later l.tries (g.W.TellingWriter.called l.initial.writer))
    × (g.W.TellingWriter.has_failed l.initial.writer → g.W.TellingWriter.has_failed l.writer)
