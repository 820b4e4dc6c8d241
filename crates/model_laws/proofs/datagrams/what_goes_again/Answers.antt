use Rattle.model_laws.proofs.Heard.{copied, repeats, sends}
use Rattle.sip_model.specs.verdict_model.Verdict as Verdict
use Rattle.model_laws.proofs.datagrams.what_goes_again.Goals as goal

pub returns-clause-copied : goal.returns-clause-copied
returns-clause-copied c = copied

pub returns-clause-copies_alone : goal.returns-clause-copies_alone
returns-clause-copies_alone c = λ server old new at word from bytes m out r h. sends server old new at word from bytes m (Verdict.Copy r) out h

pub returns-clause-acknowledged : goal.returns-clause-acknowledged
returns-clause-acknowledged c = λ server old new at word from bytes m out r b status h. repeats server old new at word from bytes m (Verdict.Respond r b status) out h
