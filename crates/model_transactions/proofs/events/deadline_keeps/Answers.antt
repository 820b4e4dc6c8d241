use Rattle.model_transactions.proofs.Near.{branch_later, request_later}
use Rattle.model_transactions.proofs.Kept.{overdue_kept, side_overdue_kept}
use Rattle.model_transactions.proofs.events.deadline_keeps.Goals as goal

pub returns-clause-branch : goal.returns-clause-branch
returns-clause-branch c = λ server bound now r b le h w. overdue_kept now server r b (branch_later bound now b le h) (request_later bound now r le w)

pub returns-clause-side : goal.returns-clause-side
returns-clause-side c = λ server bound now r le w. side_overdue_kept now server r (request_later bound now r le w)
