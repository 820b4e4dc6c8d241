use Rattle.std.proofs.Common.{refl}
use Rattle.std.specs.Fmt.{digits}
use Rattle.sipd_expect.proofs.log_examples.otherwise.Goals as goal

pub returns-clause-denied : goal.returns-clause-denied
unfolding digits
returns-clause-denied c = refl

pub returns-clause-allowed : goal.returns-clause-allowed
unfolding digits
returns-clause-allowed c = refl

pub returns-clause-challenged : goal.returns-clause-challenged
unfolding digits
returns-clause-challenged c = refl

pub returns-clause-other_rule : goal.returns-clause-other_rule
unfolding digits
returns-clause-other_rule c = refl

pub returns-clause-by_none : goal.returns-clause-by_none
unfolding digits
returns-clause-by_none c = refl
