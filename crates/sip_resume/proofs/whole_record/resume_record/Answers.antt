use Rattle.std.proofs.Common.{refl, ◌∙◌}
use Rattle.std.proofs.lemmas.Result.{err_from_is_err_and}
use Rattle.sip_run.specs.Due.{standing_of}
use Rattle.sip_replay_script.specs.Lines.{IsSpent, pending}
use Rattle.sip_resume.specs.RecordErrors.{record_error_of}
use Rattle.sip_resume.specs.Outputs.{outputs_of}
use Rattle.sip_resume.proofs.Calls.{is_not, is_so}
use Rattle.sip_resume.proofs.Wholly.{front_reached, front_unresumed, further_reached, resumed_so, unresumed_further}
use Rattle.sip_segment_config.proofs.SoFar.{fewer_asks}
use Rattle.sip_resume.proofs.whole_record.resume_record.Goals as goal

pub returns-in_err-reached-clause-refused : goal.returns-in_err-reached-clause-refused
returns-in_err-reached-clause-refused g c =
    let p = err_from_is_err_and c.from_residual.result c.from_residual.ensures.1 in
    rw (p.1, p.2) (front_unresumed c.args.engine.now.server c.take_events.new.engine.server (standing_of c.args.engine.now) (standing_of c.take_events.new.engine)
    c.args.longest (IsSpent (g.I.TellingReader.has_failed c.take_events.new.reader) c.take_events.new.lines.asks)
    (pending c.args.lines.now (g.I.TellingReader.remaining c.args.reader.now)) c.args.lines.now.number
    (outputs_of (g.J.Journal.written c.args.journal.now) (g.S.StepSink.shown c.args.sink.now))
    (outputs_of (g.J.Journal.written c.take_events.new.journal) (g.S.StepSink.shown c.take_events.new.sink)) c.in_err-reached.field-0.0
    (record_error_of c.in_err-reached.field-0.0) refl
    c.take_events.ensures.server c.in_err-reached.ensures.refused)

pub segments-init : goal.segments-init
segments-init g c = (
  front_reached c.args.engine.now c.take_events.new.engine c.args.lines.now c.take_events.new.lines (g.I.TellingReader.remaining c.args.reader.now)
      (g.I.TellingReader.remaining c.take_events.new.reader) (outputs_of (g.J.Journal.written c.args.journal.now) (g.S.StepSink.shown c.args.sink.now))
      (outputs_of (g.J.Journal.written c.take_events.new.journal) (g.S.StepSink.shown c.take_events.new.sink)) c.in_ok-reached.reached.lines c.in_ok-reached.reached.last
      c.in_ok-reached.reached.is_over c.take_events.ensures.server c.in_ok-reached.ensures.taken,
  c.take_events.ensures.asked,
  c.in_ok-reached.ensures.whole (λ e. cc),
  c.take_events.ensures.less,
  c.take_events.ensures.secrets,
)

pub returns-in_err-part-clause-refused : goal.returns-in_err-part-clause-refused
returns-in_err-part-clause-refused g c =
    let p = err_from_is_err_and c.from_residual-in_err-part.result c.from_residual-in_err-part.ensures.1 in
    rw (p.1, p.2) (unresumed_further c.segments_join.ensures.both c.noted_segments_join.ensures.both c.args.engine.now c.segments.engine c.take_segment.new.engine
    c.args.longest
    (IsSpent (g.I.TellingReader.has_failed c.take_segment.new.reader) c.take_segment.new.lines.asks) c.args.lines.now c.segments.lines
    (g.I.TellingReader.remaining c.args.reader.now) (g.I.TellingReader.remaining c.segments.reader)
    (outputs_of (g.J.Journal.written c.args.journal.now) (g.S.StepSink.shown c.args.sink.now))
    (outputs_of (g.J.Journal.written c.segments.journal) (g.S.StepSink.shown c.segments.sink))
    (outputs_of (g.J.Journal.written c.take_segment.new.journal) (g.S.StepSink.shown c.take_segment.new.sink)) c.segments.reached.lines c.segments.reached.last
    c.segments.reached.is_over c.in_err-part.field-0.0 (is_not c.segments.reached.is_over c.segments-test.true) c.segments.invariant.0
    (c.in_err-part.ensures.refused c.segments.invariant.0.left_then (c.segments.invariant.0.kept (is_not c.segments.reached.is_over c.segments-test.true))
    (c.segments.invariant.0.no_event (is_not c.segments.reached.is_over c.segments-test.true))))

pub segments-preserved : goal.segments-preserved
segments-preserved g c = (
  further_reached c.segments_join.ensures.both c.noted_segments_join.ensures.both c.args.engine.now c.segments.engine c.take_segment.new.engine c.args.lines.now
      c.segments.lines c.take_segment.new.lines (g.I.TellingReader.remaining c.args.reader.now)
      (g.I.TellingReader.remaining c.segments.reader) (g.I.TellingReader.remaining c.take_segment.new.reader)
      (outputs_of (g.J.Journal.written c.args.journal.now) (g.S.StepSink.shown c.args.sink.now))
      (outputs_of (g.J.Journal.written c.segments.journal) (g.S.StepSink.shown c.segments.sink))
      (outputs_of (g.J.Journal.written c.take_segment.new.journal) (g.S.StepSink.shown c.take_segment.new.sink)) c.segments.reached.lines
      c.behind-reached.result.lines c.in_ok-part.part.lines c.segments.reached.last c.in_ok-part.part.last c.behind-reached.result.last c.segments.reached.is_over
      c.in_ok-part.part.is_over c.behind-reached.result.is_over (is_not c.segments.reached.is_over c.segments-test.true)
      c.behind-reached.ensures.lines c.behind-reached.ensures.last c.behind-reached.ensures.is_over c.segments.invariant.0
      (c.in_ok-part.ensures.taken c.segments.invariant.0.left_then (c.segments.invariant.0.kept (is_not c.segments.reached.is_over c.segments-test.true))),
  c.take_segment.ensures.asked ∙ c.segments.invariant.1,
  c.in_ok-part.ensures.whole (λ e. cc) ∙ c.segments.invariant.2,
  fewer_asks c.take_segment.new.lines.asks c.segments.lines.asks c.args.lines.now.asks c.take_segment.ensures.less c.segments.invariant.3,
  c.take_segment.ensures.secrets ∙ c.segments.invariant.4,
)

pub returns-clause-resumed : goal.returns-clause-resumed
returns-clause-resumed g c =
    resumed_so c.args.engine.now c.segments.engine c.args.lines.now c.segments.lines (g.I.TellingReader.remaining c.args.reader.now)
    (g.I.TellingReader.remaining c.segments.reader) (outputs_of (g.J.Journal.written c.args.journal.now) (g.S.StepSink.shown c.args.sink.now))
    (outputs_of (g.J.Journal.written c.segments.journal) (g.S.StepSink.shown c.segments.sink))
    c.segments.reached.lines c.segments.reached.last c.segments.reached.is_over (is_so c.segments.reached.is_over c.segments-test.false) c.segments.invariant.0
