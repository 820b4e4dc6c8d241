use Rattle.std.proofs.Common.{refl}
use Rattle.std.specs.Fmt.{digits}
use Rattle.sipd_ask.proofs.examples.warnings_are_told.Goals as goal

pub returns-clause-small : goal.returns-clause-small
unfolding digits
returns-clause-small c = refl
