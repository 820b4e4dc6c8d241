use Rattle.model_transactions.proofs.Near.{branch_later, request_later}
use Rattle.model_transactions.proofs.Kept.{failed_kept}
use Rattle.model_transactions.proofs.events.fault_keeps.Goals as goal

pub returns : goal.returns
returns c = λ server bound now r b le h w. failed_kept now server r b (branch_later bound now b le h) (request_later bound now r le w)
