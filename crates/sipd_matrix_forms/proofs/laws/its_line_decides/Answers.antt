use Rattle.sipd_matrix_forms.proofs.Counted.{line_decides}
use Rattle.sipd_matrix_forms.proofs.laws.its_line_decides.Goals as goal

pub returns : goal.returns
returns c = line_decides
