use Rattle.sip_event.specs.declared.event.Event.TheVariants.{Fault}
use Rattle.sip_journal.proofs.Recording.{noted_ok}
use Rattle.sip_journal.proofs.recorder.RecorderJournal.failed.Goals as goal

pub returns-clause-noted : goal.returns-clause-noted
returns-clause-noted g c = noted_ok c.answer-2.result c.written_event_is_recorded.ensures.written c.args.self.now.has_failed c.write_fault-done.result _ _ _
    (Fault c.args.at c.args.ticket) c.fault_has_types.ensures c.if-self.false c.write_fault-done.ensures.written
