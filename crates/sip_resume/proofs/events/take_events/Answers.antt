use Rattle.std.proofs.Common.{refl, ◌∙◌}
use Rattle.sip_run.specs.Due.{standing_of}
use Rattle.sip_replay_script.specs.Lines.{left, pending}
use Rattle.sip_resume.specs.Outputs.{outputs_of}
use Rattle.sip_resume.proofs.Eventwise.{events_begun, events_next, less_left, next_fewer, still_left}
use Rattle.sip_segment_config.proofs.SoFar.{fewer_asks}
use Rattle.sip_resume.proofs.events.take_events.Goals as goal

pub events-init : goal.events-init
events-init g c = (
  refl,
  events_begun c.args.engine.now.server (standing_of c.args.engine.now) (pending c.args.lines.now (g.I.TellingReader.remaining c.args.reader.now)) c.args.lines.now.number
      c.number-taken.result (outputs_of (g.J.Journal.written c.args.journal.now) (g.S.StepSink.shown c.args.sink.now)) c.number-taken.ensures.value,
  c.number-taken.ensures.value,
  refl,
  refl,
  still_left (left c.args.lines.now),
  still_left c.args.lines.now.asks,
  refl,
)

pub events-preserved : goal.events-preserved
events-preserved g c = (
  c.take_next.ensures.server ∙ c.events.invariant.0,
  events_next c.runs_join.ensures c.args.engine.now.server c.events.engine.server (standing_of c.args.engine.now) (standing_of c.events.engine)
      (standing_of c.take_next.new.engine) c.events.lines c.take_next.new.lines
      (pending c.args.lines.now (g.I.TellingReader.remaining c.args.reader.now)) (g.I.TellingReader.remaining c.events.reader)
      (g.I.TellingReader.remaining c.take_next.new.reader) c.args.lines.now.number c.events.taken c.number-taken-in-Taken.result
      (outputs_of (g.J.Journal.written c.args.journal.now) (g.S.StepSink.shown c.args.sink.now))
      (outputs_of (g.J.Journal.written c.events.journal) (g.S.StepSink.shown c.events.sink))
      (outputs_of (g.J.Journal.written c.take_next.new.journal) (g.S.StepSink.shown c.take_next.new.sink)) c.events.last c.in-Taken.out c.events.invariant.0
      c.events.invariant.2 c.number-taken-in-Taken.ensures.value c.events.invariant.1 (rw c.in-Taken.is at c.in_ok-out.ensures.next),
  c.number-taken-in-Taken.ensures.value,
  c.take_next.ensures.asked ∙ c.events.invariant.3,
  c.in_ok-out.ensures.whole (λ e. cc) ∙ c.events.invariant.4,
  less_left (left c.take_next.new.lines) (left c.events.lines) (left c.args.lines.now)
      (next_fewer c.events.engine.server (standing_of c.events.engine) (standing_of c.take_next.new.engine) c.events.lines c.take_next.new.lines
      (g.I.TellingReader.remaining c.events.reader) (g.I.TellingReader.remaining c.take_next.new.reader)
      (outputs_of (g.J.Journal.written c.events.journal) (g.S.StepSink.shown c.events.sink))
      (outputs_of (g.J.Journal.written c.take_next.new.journal) (g.S.StepSink.shown c.take_next.new.sink)) c.in-Taken.out
      (rw c.in-Taken.is at c.in_ok-out.ensures.next)) c.events.invariant.5,
  fewer_asks c.take_next.new.lines.asks c.events.lines.asks c.args.lines.now.asks c.take_next.ensures.less c.events.invariant.6,
  c.take_next.ensures.secrets ∙ c.events.invariant.7,
)
