use Rattle.std.proofs.Common.{refl}
use Rattle.sipd_matrix.proofs.examples.numbers_of_cells.Goals as goal

pub returns-clause-own : goal.returns-clause-own
returns-clause-own c = refl

pub returns-clause-others : goal.returns-clause-others
returns-clause-others c = refl

pub returns-clause-alone : goal.returns-clause-alone
returns-clause-alone c = refl
