use Rattle.sip_journal.proofs.Configuring.{configured_ok}
use Rattle.sip_journal.proofs.recorder.RecorderJournal.configured.Goals as goal

pub returns-clause-noted : goal.returns-clause-noted
returns-clause-noted g c = configured_ok c.answer-2.result c.args.self.now.has_failed c.write_configuration-done.result _ _ _ c.args.bytes.now c.if-self.false
    c.write_configuration-done.ensures.written
