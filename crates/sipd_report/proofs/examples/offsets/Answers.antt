use Rattle.std.proofs.Common.{refl}
use Rattle.std.specs.Fmt.{digits}
use Rattle.sipd_report.proofs.examples.offsets.Goals as goal

pub returns-clause-behind : goal.returns-clause-behind
unfolding digits
returns-clause-behind c = refl

pub returns-clause-ahead : goal.returns-clause-ahead
unfolding digits
returns-clause-ahead c = refl
