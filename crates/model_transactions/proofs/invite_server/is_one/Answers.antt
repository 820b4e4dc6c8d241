use Rattle.model_transactions.proofs.InviteServerSteps.{one_state}
use Rattle.model_transactions.proofs.invite_server.is_one.Goals as goal

pub returns : goal.returns
returns c = one_state
