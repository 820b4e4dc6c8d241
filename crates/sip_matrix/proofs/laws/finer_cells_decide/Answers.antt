use Rattle.sip_matrix.proofs.Found.{rule_of_finer, decision_of_finer, known_of_finer}
use Rattle.sip_matrix.proofs.laws.finer_cells_decide.Goals as goal

pub returns-clause-rule : goal.returns-clause-rule
returns-clause-rule c = rule_of_finer

pub returns-clause-decision : goal.returns-clause-decision
returns-clause-decision c = decision_of_finer

pub returns-clause-known : goal.returns-clause-known
returns-clause-known c = known_of_finer
