use Rattle.std.proofs.Common.{refl}
use Rattle.std.specs.Fmt.{digits}
use Rattle.sipd_changes.proofs.examples.head_is_told.Goals as goal

pub returns-clause-bound : goal.returns-clause-bound
unfolding digits
returns-clause-bound c = refl

pub returns-clause-offset : goal.returns-clause-offset
unfolding digits
returns-clause-offset c = refl
