use Rattle.model_transactions.proofs.InviteClientSteps.{fires_a}
use Rattle.model_transactions.proofs.invite_client.sends_again.Goals as goal

pub returns : goal.returns
returns c = fires_a
