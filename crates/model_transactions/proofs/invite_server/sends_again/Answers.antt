use Rattle.model_transactions.proofs.InviteServerSteps.{fires_g}
use Rattle.model_transactions.proofs.invite_server.sends_again.Goals as goal

pub returns : goal.returns
returns c = fires_g
