use Rattle.std.proofs.Common.{refl}
use Rattle.std.specs.Fmt.{digits}
use Rattle.sipd_changes.proofs.examples.rules_are_summed_up.Goals as goal

pub returns-clause-goes : goal.returns-clause-goes
unfolding digits
returns-clause-goes c = refl

pub returns-clause-comes : goal.returns-clause-comes
unfolding digits
returns-clause-comes c = refl

pub returns-clause-again : goal.returns-clause-again
unfolding digits
returns-clause-again c = refl

pub returns-clause-three : goal.returns-clause-three
unfolding digits
returns-clause-three c = refl

pub returns-clause-dozen : goal.returns-clause-dozen
unfolding digits
returns-clause-dozen c = refl

pub returns-clause-many : goal.returns-clause-many
unfolding digits
returns-clause-many c = refl

pub returns-clause-all : goal.returns-clause-all
unfolding digits
returns-clause-all c = refl
