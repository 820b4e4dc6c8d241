use Rattle.std.proofs.Common.{refl}
use Rattle.std.specs.Fmt.{digits}
use Rattle.sipd_changes.proofs.examples.hops_are_told.Goals as goal

pub returns-clause-comes : goal.returns-clause-comes
unfolding digits
returns-clause-comes c = refl

pub returns-clause-moves : goal.returns-clause-moves
unfolding digits
returns-clause-moves c = refl
