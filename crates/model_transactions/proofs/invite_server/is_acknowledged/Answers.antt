use Rattle.model_transactions.proofs.InviteServerSteps.{ack_comes}
use Rattle.model_transactions.proofs.invite_server.is_acknowledged.Goals as goal

pub returns : goal.returns
returns c = ack_comes
