use Rattle.sip_matrix.proofs.Listed.{one_row, one_column}
use Rattle.sip_matrix.proofs.Minutes.{one_piece}
use Rattle.sip_matrix.proofs.laws.every_question_has_a_cell.Goals as goal

pub returns-clause-row : goal.returns-clause-row
returns-clause-row c = one_row

pub returns-clause-column : goal.returns-clause-column
returns-clause-column c = one_column

pub returns-clause-piece : goal.returns-clause-piece
returns-clause-piece c = λ rules minute below. one_piece rules minute 1440 below
