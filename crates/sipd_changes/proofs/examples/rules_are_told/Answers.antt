use Rattle.std.proofs.Common.{refl}
use Rattle.std.specs.Fmt.{digits}
use Rattle.sipd_changes.proofs.examples.rules_are_told.Goals as goal

pub returns-clause-goes : goal.returns-clause-goes
unfolding digits
returns-clause-goes c = refl

pub returns-clause-comes : goal.returns-clause-comes
unfolding digits
returns-clause-comes c = refl

pub returns-clause-says : goal.returns-clause-says
unfolding digits
returns-clause-says c = refl

pub returns-clause-again : goal.returns-clause-again
unfolding digits
returns-clause-again c = refl

pub returns-clause-order : goal.returns-clause-order
unfolding digits
returns-clause-order c = refl
