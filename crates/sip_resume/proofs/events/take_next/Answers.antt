use Rattle.std.proofs.Common.{◌≡◌, arith}
use Rattle.std.proofs.lemmas.Result.{err_from_is_err_and}
use Rattle.sip_run.specs.Due.{standing_of}
use Rattle.sip_replay_script.specs.Lines.{IsSpent}
use Rattle.sip_resume.specs.Outputs.{outputs_of}
use Rattle.sip_journal.specs.declared.upcoming.Upcoming.TheVariants.{Event}
use Rattle.sip_resume.proofs.Eventwise.{event_kept, event_none, stops_behind, taken_behind}
use Rattle.sip_resume.proofs.events.take_next.Goals as goal

pub returns-in-Some-clause-next : goal.returns-in-Some-clause-next
returns-in-Some-clause-next g c =
    let here : c.in-Ok-Event.field-0 ≡ Event = grind (arith, c.in-Ok-Event.is, c.in-Ok-Event.field-0-is) in
    taken_behind c.args.engine.now.server (standing_of c.args.engine.now) (standing_of c.resume_next.new.engine) c.args.lines.now c.look_ahead.new.lines
    c.resume_next.new.lines (g.I.TellingReader.remaining c.args.reader.now)
    (g.I.TellingReader.remaining c.look_ahead.new.reader) (g.I.TellingReader.remaining c.resume_next.new.reader)
    (outputs_of (g.J.Journal.written c.args.journal.now) (g.S.StepSink.shown c.args.sink.now))
    (outputs_of (g.J.Journal.written c.resume_next.new.journal) (g.S.StepSink.shown c.resume_next.new.sink)) c.in-Some.out
    (event_kept c.in-Ok-Event.field-0 c.args.lines.now c.look_ahead.new.lines (g.I.TellingReader.remaining c.args.reader.now)
    (g.I.TellingReader.remaining c.look_ahead.new.reader) here c.in-Ok-Event.ensures.next) c.look_ahead.ensures.number c.in-Ok-Event.ensures.fewer
    (rw c.in-Some.is at c.in_ok-out-in-Ok-Event.ensures.taken)

pub returns-in_err-out-in-Ok-Event-clause-refused : goal.returns-in_err-out-in-Ok-Event-clause-refused
returns-in_err-out-in-Ok-Event-clause-refused g c =
    let here : c.in-Ok-Event.field-0 ≡ Event = grind (arith, c.in-Ok-Event.is, c.in-Ok-Event.field-0-is) in
    let p = err_from_is_err_and c.from_residual.result c.from_residual.ensures.1 in
    rw (p.1, p.2) (stops_behind c.args.engine.now.server (standing_of c.args.engine.now) (standing_of c.resume_next.new.engine)
    (IsSpent (g.I.TellingReader.has_failed c.resume_next.new.reader) c.resume_next.new.lines.asks) c.args.lines.now c.look_ahead.new.lines
    (g.I.TellingReader.remaining c.args.reader.now) (g.I.TellingReader.remaining c.look_ahead.new.reader)
    (outputs_of (g.J.Journal.written c.args.journal.now) (g.S.StepSink.shown c.args.sink.now))
    (outputs_of (g.J.Journal.written c.resume_next.new.journal) (g.S.StepSink.shown c.resume_next.new.sink)) c.in_err-out-in-Ok-Event.field-0.0
    (event_kept c.in-Ok-Event.field-0 c.args.lines.now c.look_ahead.new.lines (g.I.TellingReader.remaining c.args.reader.now)
    (g.I.TellingReader.remaining c.look_ahead.new.reader) here c.in-Ok-Event.ensures.next) c.look_ahead.ensures.number
    (event_none c.in-Ok-Event.field-0 c.args.lines.now c.look_ahead.new.lines (g.I.TellingReader.remaining c.args.reader.now)
    (g.I.TellingReader.remaining c.look_ahead.new.reader) here c.in-Ok-Event.ensures.next)
    c.in_err-out-in-Ok-Event.ensures.refused c.in_err-out-in-Ok-Event.ensures.told)
