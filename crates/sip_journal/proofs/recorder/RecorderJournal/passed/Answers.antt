use Rattle.sip_event.specs.declared.event.Event.TheVariants.{Time}
use Rattle.sip_journal.proofs.Recording.{noted_ok}
use Rattle.sip_journal.proofs.recorder.RecorderJournal.passed.Goals as goal

pub returns-clause-noted : goal.returns-clause-noted
returns-clause-noted g c = noted_ok c.answer-2.result c.written_event_is_recorded.ensures.written c.args.self.now.has_failed c.write_time-done.result _ _ _
    (Time c.args.at) tt c.if-self.false c.write_time-done.ensures.written
