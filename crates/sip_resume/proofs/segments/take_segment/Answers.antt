use Rattle.std.proofs.Common.{refl, ◌∙◌}
use Rattle.std.proofs.lemmas.Result.{err_from_is_err_and}
use Rattle.sip_run.specs.Due.{standing_of}
use Rattle.sip_replay_script.specs.Lines.{IsSpent, pending}
use Rattle.sip_resume.specs.RecordErrors.{record_error_of}
use Rattle.sip_resume.specs.declared.record_error.RecordError.TheVariants.{Journal}
use Rattle.sip_resume.specs.Outputs.{outputs_of}
use Rattle.sip_resume.proofs.Segmentwise.{none_waits, reaches_end, reaches_next, stopped_behind, unbegun, untold}
use Rattle.sip_resume.proofs.segments.take_segment.Goals as goal

pub returns-in_err-text-clause-refused : goal.returns-in_err-text-clause-refused
returns-in_err-text-clause-refused g c = λ before kept none.
    let p = err_from_is_err_and c.from_residual.result c.from_residual.ensures.1 in
    rw (p.1, p.2) (unbegun c.args.engine.now c.begin_segment.new.engine c.args.longest
    (IsSpent (g.I.TellingReader.has_failed c.begin_segment.new.reader) c.begin_segment.new.lines.asks) before
    (pending c.args.lines.now (g.I.TellingReader.remaining c.args.reader.now)) c.args.lines.now.number
    (outputs_of (g.J.Journal.written c.args.journal.now) (g.S.StepSink.shown c.args.sink.now)) c.in_err-text.field-0.0 kept c.in_err-text.ensures.unchanged none
    c.in_err-text.ensures.refused)

pub returns-in_default-clause-taken : goal.returns-in_default-clause-taken
returns-in_default-clause-taken g c = λ before kept.
    reaches_end c.args.engine.now c.begin_segment.new.engine before c.args.lines.now c.begin_segment.new.lines (g.I.TellingReader.remaining c.args.reader.now)
    (g.I.TellingReader.remaining c.begin_segment.new.reader) (outputs_of (g.J.Journal.written c.args.journal.now) (g.S.StepSink.shown c.args.sink.now))
    c.over.result.lines c.over.result.last c.over.result.is_over kept (none_waits c.in_ok-text.field-0 c.in_default.is c.in_ok-text.ensures.waits)
    (none_waits c.in_ok-text.field-0 c.in_default.is c.in_ok-text.ensures.over)
    (c.over.ensures.0 ∙ c.number-before.ensures.value) c.over.ensures.1 c.over.ensures.2

pub returns-in_err-configured-clause-refused : goal.returns-in_err-configured-clause-refused
returns-in_err-configured-clause-refused g c = λ before kept none.
    let p = err_from_is_err_and c.from_residual-in_err-configured.result c.from_residual-in_err-configured.ensures.1 in
    rw (p.1, p.2) (untold c.args.engine.now c.begin_segment.new.engine c.args.longest
    (IsSpent (g.I.TellingReader.has_failed c.begin_segment.new.reader) c.begin_segment.new.lines.asks) before c.args.lines.now c.begin_segment.new.lines
    (g.I.TellingReader.remaining c.args.reader.now) (g.I.TellingReader.remaining c.begin_segment.new.reader)
    (outputs_of (g.J.Journal.written c.args.journal.now) (g.S.StepSink.shown c.args.sink.now)) (g.J.Journal.written c.configured.new.self) c.in-Some.text Journal kept
    refl c.in_err-configured.ensures.failed
    (rw c.in-Some.is at c.in_ok-text.ensures.taken))

pub returns-in_err-reached-clause-refused : goal.returns-in_err-reached-clause-refused
returns-in_err-reached-clause-refused g c = λ before kept none.
    let p = err_from_is_err_and c.from_residual-in_err-reached.result c.from_residual-in_err-reached.ensures.1 in
    rw (p.1, p.2) (stopped_behind c.segments_join.ensures.one c.noted_segments_join.ensures.begun c.args.engine.now c.begin_segment.new.engine
    c.take_events.new.engine.server (standing_of c.take_events.new.engine) c.args.longest
    (IsSpent (g.I.TellingReader.has_failed c.take_events.new.reader) c.take_events.new.lines.asks) before c.args.lines.now c.begin_segment.new.lines
    (g.I.TellingReader.remaining c.args.reader.now)
    (g.I.TellingReader.remaining c.begin_segment.new.reader) (outputs_of (g.J.Journal.written c.args.journal.now) (g.S.StepSink.shown c.args.sink.now))
    (g.J.Journal.written c.configured.new.self) (outputs_of (g.J.Journal.written c.take_events.new.journal) (g.S.StepSink.shown c.take_events.new.sink))
    c.in-Some.text c.in_err-reached.field-0.0
    (record_error_of c.in_err-reached.field-0.0) kept refl c.take_events.ensures.server (rw c.in-Some.is at c.in_ok-text.ensures.taken)
    (rw c.as_slice.ensures at c.in_ok-configured.ensures.noted) c.in_err-reached.ensures.refused)

pub returns-clause-taken : goal.returns-clause-taken
returns-clause-taken g c = λ before kept.
    reaches_next c.segments_join.ensures.one c.noted_segments_join.ensures.begun c.args.engine.now c.begin_segment.new.engine c.take_events.new.engine.server
    (standing_of c.take_events.new.engine) before c.args.lines.now c.begin_segment.new.lines
    c.take_events.new.lines (g.I.TellingReader.remaining c.args.reader.now) (g.I.TellingReader.remaining c.begin_segment.new.reader)
    (g.I.TellingReader.remaining c.take_events.new.reader) (outputs_of (g.J.Journal.written c.args.journal.now) (g.S.StepSink.shown c.args.sink.now))
    (g.J.Journal.written c.configured.new.self)
    (outputs_of (g.J.Journal.written c.take_events.new.journal) (g.S.StepSink.shown c.take_events.new.sink)) c.in-Some.text c.in_ok-reached.reached.lines
    c.in_ok-reached.reached.last c.in_ok-reached.reached.is_over kept c.take_events.ensures.server (rw c.in-Some.is at c.in_ok-text.ensures.taken)
    (rw c.as_slice.ensures at c.in_ok-configured.ensures.noted) c.in_ok-reached.ensures.taken
