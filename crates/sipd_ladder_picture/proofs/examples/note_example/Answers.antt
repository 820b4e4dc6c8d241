use Rattle.std.proofs.Common.{refl}
use Rattle.std.specs.Fmt.{digits}
use Rattle.sipd_ladder_picture.proofs.examples.note_example.Goals as goal

pub returns-clause-decided : goal.returns-clause-decided
unfolding digits
returns-clause-decided c = refl

pub returns-clause-denied : goal.returns-clause-denied
unfolding digits
returns-clause-denied c = refl

pub returns-clause-timer : goal.returns-clause-timer
unfolding digits
returns-clause-timer c = refl
