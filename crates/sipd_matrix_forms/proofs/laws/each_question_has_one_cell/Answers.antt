use Rattle.sipd_matrix_forms.proofs.Counted.{one_cell}
use Rattle.sipd_matrix_forms.proofs.laws.each_question_has_one_cell.Goals as goal

pub returns : goal.returns
returns c = one_cell
