use Rattle.std.proofs.Common.{refl}
use Rattle.sipd_matrix.proofs.examples.row_lines.Goals as goal

pub returns-clause-staff : goal.returns-clause-staff
returns-clause-staff c = refl

pub returns-clause-others : goal.returns-clause-others
returns-clause-others c = refl

pub returns-clause-of_no_group : goal.returns-clause-of_no_group
returns-clause-of_no_group c = refl
