use Rattle.std.proofs.lemmas.Result.{err_from_is_err_and}
use Rattle.sip_run.specs.Due.{standing_of}
use Rattle.sip_replay_script.specs.Lines.{IsSpent, pending}
use Rattle.sip_resume.specs.Outputs.{outputs_of}
use Rattle.sip_resume.proofs.Refused.{turn_refused, turn_told, unread, unread_told, untold, untold_at}
use Rattle.sip_resume.proofs.Retaken.{takes_next}
use Rattle.sip_resume.proofs.resuming.resume_next.Goals as goal

pub returns-in_err-event-clause-refused : goal.returns-in_err-event-clause-refused
returns-in_err-event-clause-refused g c =
    let p = err_from_is_err_and c.from_residual.result c.from_residual.ensures.1 in
    rw (p.1, p.2) (unread (IsSpent (g.I.TellingReader.has_failed c.read_next.new.reader) c.read_next.new.lines.asks) c.args.engine.now.server
    (standing_of c.args.engine.now) c.args.lines.now.number
    (pending c.args.lines.now (g.I.TellingReader.remaining c.args.reader.now)) (outputs_of (g.J.Journal.written c.args.journal.now) (g.S.StepSink.shown c.args.sink.now))
    c.in_err-event.field-0.0 c.in_err-event.ensures.refused)

pub returns-in_err-event-clause-told : goal.returns-in_err-event-clause-told
returns-in_err-event-clause-told g c =
    let p = err_from_is_err_and c.from_residual.result c.from_residual.ensures.1 in
    rw (p.1, p.2) (unread_told (IsSpent (g.I.TellingReader.has_failed c.read_next.new.reader) c.read_next.new.lines.asks) c.args.lines.now.number
    (pending c.args.lines.now (g.I.TellingReader.remaining c.args.reader.now)) (g.J.Journal.written c.args.journal.now) c.in_err-event.field-0.0
    c.in_err-event.ensures.refused)

pub returns-in_err-out-clause-refused : goal.returns-in_err-out-clause-refused
returns-in_err-out-clause-refused g c =
    let p = err_from_is_err_and c.from_residual-in_err-out.result c.from_residual-in_err-out.ensures.1 in
    rw (p.1, p.2) (turn_refused (IsSpent (g.I.TellingReader.has_failed c.read_next.new.reader) c.read_next.new.lines.asks) c.args.engine.now.server
    (standing_of c.args.engine.now) (standing_of c.take_in_turn.new.engine)
    c.args.lines.now c.read_next.new.lines (g.I.TellingReader.remaining c.args.reader.now) (g.I.TellingReader.remaining c.read_next.new.reader) c.in-Some.event
    c.args.lines.now.number
    (outputs_of (g.J.Journal.written c.args.journal.now) (g.S.StepSink.shown c.args.sink.now))
    (outputs_of (g.J.Journal.written c.args.journal.now) (g.S.StepSink.shown c.take_in_turn.new.sink)) c.in_err-out.field-0.0
    (rw c.in-Some.is at c.in_ok-event.ensures.given) c.in_err-out.ensures.stopped)

pub returns-in_err-out-clause-told : goal.returns-in_err-out-clause-told
returns-in_err-out-clause-told g c =
    let p = err_from_is_err_and c.from_residual-in_err-out.result c.from_residual-in_err-out.ensures.1 in
    rw (p.1, p.2) (turn_told c.args.engine.now.server (standing_of c.args.engine.now) (standing_of c.take_in_turn.new.engine) c.in-Some.event
    (g.S.StepSink.shown c.args.sink.now) (g.S.StepSink.shown c.take_in_turn.new.sink) (g.J.Journal.written c.args.journal.now)
    c.in_err-out.field-0.0 c.in_err-out.ensures.stopped)

pub returns-in_err-note-clause-refused : goal.returns-in_err-note-clause-refused
returns-in_err-note-clause-refused g c =
    let p = err_from_is_err_and c.from_residual-in_err-note.result c.from_residual-in_err-note.ensures.1 in
    rw (p.1, p.2) (untold (IsSpent (g.I.TellingReader.has_failed c.read_next.new.reader) c.read_next.new.lines.asks) c.args.engine.now.server
    (standing_of c.args.engine.now) (standing_of c.take_in_turn.new.engine)
    c.args.lines.now c.read_next.new.lines (g.I.TellingReader.remaining c.args.reader.now) (g.I.TellingReader.remaining c.read_next.new.reader) c.in-Some.event
    c.args.lines.now.number
    (outputs_of (g.J.Journal.written c.args.journal.now) (g.S.StepSink.shown c.args.sink.now))
    (outputs_of (g.J.Journal.written c.note.new.journal) (g.S.StepSink.shown c.take_in_turn.new.sink)) c.in_ok-out.out c.in_err-note.field-0.0
    c.in_err-note.ensures.refused (rw c.in-Some.is at c.in_ok-event.ensures.given) c.in_ok-out.ensures.taken c.in_err-note.ensures.told)

pub returns-in_err-note-clause-told : goal.returns-in_err-note-clause-told
returns-in_err-note-clause-told g c =
    let p = err_from_is_err_and c.from_residual-in_err-note.result c.from_residual-in_err-note.ensures.1 in
    rw (p.1, p.2) (untold_at (g.J.Journal.written c.args.journal.now) (g.J.Journal.written c.note.new.journal) c.in_err-note.field-0.0 c.in_err-note.ensures.refused
    c.in_err-note.ensures.told)

pub returns-clause-taken : goal.returns-clause-taken
returns-clause-taken g c =
    takes_next c.args.engine.now.server (standing_of c.args.engine.now) (standing_of c.take_in_turn.new.engine) c.args.lines.now c.read_next.new.lines
    (g.I.TellingReader.remaining c.args.reader.now) (g.I.TellingReader.remaining c.read_next.new.reader)
    (outputs_of (g.J.Journal.written c.args.journal.now) (g.S.StepSink.shown c.args.sink.now))
    (outputs_of (g.J.Journal.written c.note.new.journal) (g.S.StepSink.shown c.take_in_turn.new.sink)) c.in-Some.event c.in_ok-out.out
    (rw c.in-Some.is at c.in_ok-event.ensures.given) c.in_ok-out.ensures.taken c.in_ok-note.ensures.noted
