use Rattle.std.proofs.Common.{refl}
use Rattle.std.specs.Fmt.{digits}
use Rattle.sipd_status.proofs.examples.told_example.Goals as goal

pub returns-clause-told : goal.returns-clause-told
unfolding digits
returns-clause-told c = refl

pub returns-clause-odd : goal.returns-clause-odd
unfolding digits
returns-clause-odd c = refl

pub returns-clause-mixed : goal.returns-clause-mixed
unfolding digits
returns-clause-mixed c = refl
