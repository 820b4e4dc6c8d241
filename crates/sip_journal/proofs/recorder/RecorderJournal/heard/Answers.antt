use Rattle.sip_event.specs.declared.event.Event.TheVariants.{Datagram}
use Rattle.sip_journal.proofs.Recording.{noted_ok}
use Rattle.sip_journal.proofs.recorder.RecorderJournal.heard.Goals as goal

pub returns-clause-noted : goal.returns-clause-noted
returns-clause-noted g c = noted_ok c.answer-2.result c.written_event_is_recorded.ensures.written c.args.self.now.has_failed c.write_datagram-done.result _ _ _
    (Datagram c.args.at c.args.word c.args.from c.args.bytes.now) c.datagram_has_types.ensures c.if-self.false c.write_datagram-done.ensures.written
