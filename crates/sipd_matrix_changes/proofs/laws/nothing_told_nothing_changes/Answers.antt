use Rattle.sipd_matrix_changes.proofs.Nothing.{nothing_changes}
use Rattle.sipd_matrix_changes.proofs.laws.nothing_told_nothing_changes.Goals as goal

pub returns : goal.returns
returns c = nothing_changes
