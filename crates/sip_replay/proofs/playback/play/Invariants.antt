use Rattle.std.proofs.Common.{◌≡◌, ◌≤◌}
use Rattle.sip_model.specs.TimerOrder.{first_standing}
use Rattle.sip_resume.specs.run.Due.{standing_of}
use Rattle.sip_replay_script.specs.Devices.{later}
use Rattle.sip_replay_script.specs.Lines.{left}
use Rattle.sip_replay.specs.Replays.{server_with}
use Rattle.sip_replay.proofs.Replaying.{Replays}
use Rattle.sip_replay.proofs.playback.play.Given as goal

abbrev pub invariant-loop-bytes : goal.invariant-loop-bytes
invariant-loop-bytes g l =
    (l.engine.server ≡ server_with l.fn.config l.fn.boot.word)
    × Replays (server_with l.fn.config l.fn.boot.word) (first_standing l.fn.boot.first) (standing_of l.engine) l.initial.lines l.lines
    (g.I.TellingReader.remaining l.initial.reader) (g.I.TellingReader.remaining l.reader)
    (g.W.TellingWriter.contents l.initial.writer) (g.W.TellingWriter.contents l.writer)
    × (l.lines.asks ≤ l.initial.lines.asks)
    × (later l.lines.asks (g.I.TellingReader.asked l.reader) ≡ later l.initial.lines.asks (g.I.TellingReader.asked l.initial.reader))

abbrev pub decreases-loop-bytes : goal.decreases-loop-bytes
decreases-loop-bytes g l = left l.lines
