use Rattle.model_transactions.proofs.Near.{branch_later, request_later}
use Rattle.model_transactions.proofs.Kept.{responded_kept}
use Rattle.model_transactions.proofs.events.response_keeps.Goals as goal

pub returns : goal.returns
returns c = λ server bound now r b status m le h w. responded_kept now server r b status m (branch_later bound now b le h) (request_later bound now r le w)
