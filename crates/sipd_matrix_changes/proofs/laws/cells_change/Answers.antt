use Rattle.sipd_matrix_changes.proofs.Cells.{change_of_cell}
use Rattle.sipd_matrix_changes.proofs.laws.cells_change.Goals as goal

pub returns : goal.returns
returns c = change_of_cell
