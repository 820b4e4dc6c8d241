use Rattle.std.proofs.Common.{refl}
use Rattle.std.specs.Fmt.{digits}
use Rattle.sipd_ladder.proofs.examples.row_example.Goals as goal

pub returns-clause-comes : goal.returns-clause-comes
unfolding digits
returns-clause-comes c = refl

pub returns-clause-goes : goal.returns-clause-goes
unfolding digits
returns-clause-goes c = refl

pub returns-clause-back : goal.returns-clause-back
unfolding digits
returns-clause-back c = refl

pub returns-clause-again : goal.returns-clause-again
unfolding digits
returns-clause-again c = refl
