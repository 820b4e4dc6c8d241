use Rattle.std.proofs.Common.{refl}
use Rattle.std.specs.Fmt.{digits}
use Rattle.sipd_ladder_picture.proofs.examples.message_example.Goals as goal

pub returns-clause-comes : goal.returns-clause-comes
unfolding digits
returns-clause-comes c = refl

pub returns-clause-goes : goal.returns-clause-goes
unfolding digits
returns-clause-goes c = refl

pub returns-clause-asks : goal.returns-clause-asks
unfolding digits
returns-clause-asks c = refl

pub returns-clause-again : goal.returns-clause-again
unfolding digits
returns-clause-again c = refl
