use Rattle.model_laws.proofs.Heard.{records, sends}
use Rattle.sip_targets.specs.declared.targets.Targets.TheVariants as Targets
use Rattle.std.specs.Prelude.{Some}
use Rattle.sip_model.specs.verdict_model.Verdict as Verdict
use Rattle.model_laws.proofs.datagrams.what_is_sent.Goals as goal

pub returns-clause-called : goal.returns-clause-called
returns-clause-called c = λ server old new at word from bytes m out q id targets h. sends server old new at word from bytes m
    (Verdict.Send q id (Targets.Bindings targets)) out h

pub returns-clause-call_recorded : goal.returns-clause-call_recorded
returns-clause-call_recorded c = λ server old new at word from bytes m out q id targets h.
    records server old new at word from bytes m (Verdict.Send q id (Targets.Bindings targets)) out h

pub returns-clause-sent_to_hop : goal.returns-clause-sent_to_hop
returns-clause-sent_to_hop c = λ server old new at word from bytes m out q id uri address h.
    sends server old new at word from bytes m (Verdict.Send q id (Targets.Hop uri address)) out h

pub returns-clause-sent_within : goal.returns-clause-sent_within
returns-clause-sent_within c = λ server old new at word from bytes m out address id h. sends server old new at word from bytes m (Verdict.InDialog address id) out h

pub returns-clause-responded : goal.returns-clause-responded
returns-clause-responded c = λ server old new at word from bytes m out r b status h. sends server old new at word from bytes m (Verdict.Respond r b status) out h

pub returns-clause-acknowledged : goal.returns-clause-acknowledged
returns-clause-acknowledged c = λ server old new at word from bytes m out address id h. sends server old new at word from bytes m (Verdict.AckOn address id) out h

pub returns-clause-cancelled : goal.returns-clause-cancelled
returns-clause-cancelled c = λ server old new at word from bytes m out r h. sends server old new at word from bytes m (Verdict.Cancel (Some r)) out h
