use Rattle.sip_matrix.proofs.Found.{rule_of_cell, decision_of_cell, known_of_cell}
use Rattle.sip_matrix.proofs.laws.cells_decide.Goals as goal

pub returns-clause-rule : goal.returns-clause-rule
returns-clause-rule c = rule_of_cell

pub returns-clause-decision : goal.returns-clause-decision
returns-clause-decision c = decision_of_cell

pub returns-clause-known : goal.returns-clause-known
returns-clause-known c = known_of_cell
