use Rattle.sip_matrix.proofs.Minutes.{one_piece}
use Rattle.sipd_matrix_changes.specs.Both.{rules_of}
use Rattle.sipd_matrix_changes.proofs.Cells.{one_class, one_row}
use Rattle.sipd_matrix_changes.proofs.laws.every_question_has_a_cell.Goals as goal

pub returns-clause-row : goal.returns-clause-row
returns-clause-row c = one_row

pub returns-clause-class : goal.returns-clause-class
returns-clause-class c = one_class

pub returns-clause-piece : goal.returns-clause-piece
returns-clause-piece c = λ old new minute below. one_piece (rules_of old new) minute 1440 below
