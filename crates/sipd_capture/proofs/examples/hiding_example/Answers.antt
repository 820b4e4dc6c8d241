use Rattle.std.proofs.Common.{refl}
use Rattle.sipd_capture.proofs.examples.hiding_example.Goals as goal

pub returns-clause-usual : goal.returns-clause-usual
returns-clause-usual c = refl

pub returns-clause-folded : goal.returns-clause-folded
returns-clause-folded c = refl

pub returns-clause-basic : goal.returns-clause-basic
returns-clause-basic c = refl
