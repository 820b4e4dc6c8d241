use Rattle.sipd_matrix_changes.proofs.Cells.{told_there}
use Rattle.sipd_matrix_changes.proofs.laws.told_where_changed.Goals as goal

pub returns : goal.returns
returns c = told_there
