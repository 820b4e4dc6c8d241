use Rattle.model_laws.proofs.Heard.{records, sends}
use Rattle.sip_model.specs.verdict_model.Verdict as Verdict
use Rattle.model_laws.proofs.datagrams.what_is_answered.Goals as goal

pub returns-clause-challenged : goal.returns-clause-challenged
returns-clause-challenged c = λ server old new at word from bytes m out q h. sends server old new at word from bytes m (Verdict.Challenge q) out h

pub returns-clause-denied : goal.returns-clause-denied
returns-clause-denied c = λ server old new at word from bytes m out q id h. sends server old new at word from bytes m (Verdict.Deny q id) out h

pub returns-clause-denial_recorded : goal.returns-clause-denial_recorded
returns-clause-denial_recorded c = λ server old new at word from bytes m out q id h. records server old new at word from bytes m (Verdict.Deny q id) out h

pub returns-clause-registered : goal.returns-clause-registered
returns-clause-registered c = λ server old new at word from bytes m out q id rows h. sends server old new at word from bytes m
    (Verdict.Register q id (Verdict.Bound rows)) out h

pub returns-clause-refused : goal.returns-clause-refused
returns-clause-refused c = λ server old new at word from bytes m out status extras h. sends server old new at word from bytes m (Verdict.Answer status extras) out h
