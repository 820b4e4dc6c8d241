use Rattle.std.proofs.Common.{refl}
use Rattle.std.specs.Fmt.{digits}
use Rattle.sipd_matrix.proofs.examples.invite_lines.Goals as goal

pub returns-clause-users : goal.returns-clause-users
unfolding digits
returns-clause-users c = refl

pub returns-clause-help : goal.returns-clause-help
unfolding digits
returns-clause-help c = refl

pub returns-clause-outside : goal.returns-clause-outside
unfolding digits
returns-clause-outside c = refl

pub returns-clause-others : goal.returns-clause-others
unfolding digits
returns-clause-others c = refl

pub returns-clause-elsewhere : goal.returns-clause-elsewhere
unfolding digits
returns-clause-elsewhere c = refl
