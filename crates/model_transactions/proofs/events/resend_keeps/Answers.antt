use Rattle.model_transactions.proofs.Near.{request_later}
use Rattle.model_transactions.proofs.Kept.{answer_again_kept, branch_again_kept, again_kept}
use Rattle.model_transactions.proofs.events.resend_keeps.Goals as goal

pub returns-clause-answer : goal.returns-clause-answer
returns-clause-answer c = λ bound now due r le came is w. answer_again_kept now due r came is (request_later bound now r le w)

pub returns-clause-branch : goal.returns-clause-branch
returns-clause-branch c = λ bound now due r b le came is w. branch_again_kept now due r b came is (request_later bound now r le w)

pub returns-clause-either : goal.returns-clause-either
returns-clause-either c = λ server bound now due r next packets le came is w. again_kept now server due r next packets came is (request_later bound now r le w)
