use Rattle.std.proofs.Common.{refl}
use Rattle.model_context.proofs.examples.acks_go_again.Goals as goal

pub returns-clause-same : goal.returns-clause-same
returns-clause-same c = refl

pub returns-clause-one : goal.returns-clause-one
returns-clause-one c = refl

pub returns-clause-success_after_refusal : goal.returns-clause-success_after_refusal
returns-clause-success_after_refusal c = refl

pub returns-clause-refusal_after_success : goal.returns-clause-refusal_after_success
returns-clause-refusal_after_success c = refl
