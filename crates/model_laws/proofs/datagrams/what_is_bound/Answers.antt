use Rattle.model_laws.proofs.Heard.{binds}
use Rattle.sip_targets.specs.declared.targets.Targets.TheVariants as Targets
use Rattle.sip_model.specs.verdict_model.Verdict as Verdict
use Rattle.model_laws.proofs.datagrams.what_is_bound.Goals as goal

pub returns-clause-bound : goal.returns-clause-bound
returns-clause-bound c = λ server old new at word from bytes m out q id rows h. binds server old new at word from bytes m (Verdict.Register q id (Verdict.Bound rows)) out
    h

pub returns-clause-denied : goal.returns-clause-denied
returns-clause-denied c = λ server old new at word from bytes m out q id h. binds server old new at word from bytes m (Verdict.Deny q id) out h

pub returns-clause-called : goal.returns-clause-called
returns-clause-called c = λ server old new at word from bytes m out q id targets h. binds server old new at word from bytes m
    (Verdict.Send q id (Targets.Bindings targets)) out h
