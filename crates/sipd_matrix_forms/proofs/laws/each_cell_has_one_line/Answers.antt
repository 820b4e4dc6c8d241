use Rattle.sipd_matrix_forms.proofs.Lines.{of_all}
use Rattle.sipd_matrix_forms.proofs.laws.each_cell_has_one_line.Goals as goal

pub returns : goal.returns
returns c = of_all
