use Rattle.model_transactions.proofs.Near.{request_later}
use Rattle.model_transactions.proofs.Kept.{cancelled_kept, acknowledged_kept}
use Rattle.model_transactions.proofs.events.caller_keeps.Goals as goal

pub returns-clause-cancel : goal.returns-clause-cancel
returns-clause-cancel c = λ server bound now r le w. cancelled_kept now server r (request_later bound now r le w)

pub returns-clause-ack : goal.returns-clause-ack
returns-clause-ack c = λ bound now r le w. acknowledged_kept now r (request_later bound now r le w)
