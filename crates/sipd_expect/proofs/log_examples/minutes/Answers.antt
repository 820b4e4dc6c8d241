use Rattle.std.proofs.Common.{refl}
use Rattle.std.specs.Fmt.{digits}
use Rattle.sipd_expect.proofs.log_examples.minutes.Goals as goal

pub returns-clause-before : goal.returns-clause-before
unfolding digits
returns-clause-before c = refl
