use Rattle.std.proofs.Common.{◌+◌, sym, ap, subst}
use Rattle.sip_resume.specs.run.Due.{standing_of}
use Rattle.sip_replay_script.specs.Devices.{GaveUp}
use Rattle.sip_replay_script.specs.Script.{event_of}
use Rattle.sip_replay.specs.Errors.{IsFaulted}
use Rattle.sip_replay_script.specs.Lines.{pending, IsSpent}
use Rattle.sip_replay.specs.Refusals.{Refuses}
use Rattle.sip_replay.proofs.Refusing.{event_refused, event_faulted, taking_refuses, taking_faulted}
use Rattle.sip_replay.proofs.playback.take_next.Goals as goal

pub returns-in-Err-clause-refused : goal.returns-in-Err-clause-refused
returns-in-Err-clause-refused g c =
    subst (λ e. Refuses c.args.engine.now.server (standing_of c.args.engine.now) c.args.lines.now.number
    (pending c.args.lines.now (g.I.TellingReader.remaining c.args.reader.now)) (g.W.TellingWriter.contents c.args.writer.now)
    (g.W.TellingWriter.contents c.args.writer.now) e) (sym c.unread.ensures)
    (event_refused c.cut_event_is_none.ensures (IsSpent (g.I.TellingReader.has_failed c.next_line.new.reader) c.next_line.new.lines.asks) c.args.engine.now.server
    (standing_of c.args.engine.now) c.args.lines.now.number (c.number-first.result + 1) (pending c.args.lines.now (g.I.TellingReader.remaining c.args.reader.now))
    (g.W.TellingWriter.contents c.args.writer.now) c.in-Err.stop
    (ap (λ n. n + 1) c.number-first.ensures.value) c.in-Err.ensures.stopped)

pub returns-in-Err-clause-faulted : goal.returns-in-Err-clause-faulted
returns-in-Err-clause-faulted g c =
    subst (λ e. IsFaulted (IsSpent (g.I.TellingReader.has_failed c.next_line.new.reader) c.next_line.new.lines.asks)
    (GaveUp (g.W.TellingWriter.has_failed c.args.writer.now) (g.W.TellingWriter.called c.args.writer.now)) e) (sym c.unread.ensures)
    (event_faulted (IsSpent (g.I.TellingReader.has_failed c.next_line.new.reader) c.next_line.new.lines.asks)
    (GaveUp (g.W.TellingWriter.has_failed c.args.writer.now) (g.W.TellingWriter.called c.args.writer.now)) (c.number-first.result + 1)
    (pending c.args.lines.now (g.I.TellingReader.remaining c.args.reader.now)) c.in-Err.stop c.in-Err.ensures.stopped)

pub returns-in-Err-take_line-clause-refused : goal.returns-in-Err-take_line-clause-refused
returns-in-Err-take_line-clause-refused g c =
    subst (λ e. Refuses c.args.engine.now.server (standing_of c.args.engine.now) c.args.lines.now.number
    (pending c.args.lines.now (g.I.TellingReader.remaining c.args.reader.now)) (g.W.TellingWriter.contents c.args.writer.now)
    (g.W.TellingWriter.contents c.take_line.new.writer) e) (sym c.at_line.ensures)
    (taking_refuses (GaveUp (g.W.TellingWriter.has_failed c.take_line.new.writer) (g.W.TellingWriter.called c.take_line.new.writer)) c.args.engine.now.server
    (standing_of c.args.engine.now) (c.number-first.result + 1) c.args.lines.now c.next_line.new.lines (g.I.TellingReader.remaining c.args.reader.now)
    (g.I.TellingReader.remaining c.next_line.new.reader) (event_of c.in-Ok-Some.line c.next_line.new.bytes)
    (g.W.TellingWriter.contents c.args.writer.now) (g.W.TellingWriter.contents c.take_line.new.writer) c.in-Err-take_line.stop
    (ap (λ n. n + 1) c.number-first.ensures.value) (rw c.in-Ok-Some.field-0-is at c.in-Ok-Some.ensures.given) c.in-Err-take_line.ensures.stopped)

pub returns-in-Err-take_line-clause-faulted : goal.returns-in-Err-take_line-clause-faulted
returns-in-Err-take_line-clause-faulted g c =
    subst (λ e. IsFaulted (IsSpent (g.I.TellingReader.has_failed c.next_line.new.reader) c.next_line.new.lines.asks)
    (GaveUp (g.W.TellingWriter.has_failed c.take_line.new.writer) (g.W.TellingWriter.called c.take_line.new.writer)) e) (sym c.at_line.ensures)
    (taking_faulted (IsSpent (g.I.TellingReader.has_failed c.next_line.new.reader) c.next_line.new.lines.asks)
    (GaveUp (g.W.TellingWriter.has_failed c.take_line.new.writer) (g.W.TellingWriter.called c.take_line.new.writer)) c.args.engine.now.server
    (standing_of c.args.engine.now) (c.number-first.result + 1) (event_of c.in-Ok-Some.line c.next_line.new.bytes) (g.W.TellingWriter.contents c.args.writer.now)
    (g.W.TellingWriter.contents c.take_line.new.writer) c.in-Err-take_line.stop c.in-Err-take_line.ensures.stopped)
