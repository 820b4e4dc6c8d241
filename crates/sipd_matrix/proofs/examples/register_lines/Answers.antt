use Rattle.std.proofs.Common.{refl}
use Rattle.std.specs.Fmt.{digits}
use Rattle.sipd_matrix.proofs.examples.register_lines.Goals as goal

pub returns-clause-users : goal.returns-clause-users
unfolding digits
returns-clause-users c = refl

pub returns-clause-outside : goal.returns-clause-outside
unfolding digits
returns-clause-outside c = refl
