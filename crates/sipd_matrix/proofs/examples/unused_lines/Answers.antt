use Rattle.std.proofs.Common.{refl}
use Rattle.std.specs.Fmt.{digits}
use Rattle.sipd_matrix.proofs.examples.unused_lines.Goals as goal

pub returns-clause-rule : goal.returns-clause-rule
unfolding digits
returns-clause-rule c = refl
