use Rattle.model_transactions.proofs.InviteServerSteps.{copy_comes}
use Rattle.model_transactions.proofs.invite_server.hears_copy.Goals as goal

pub returns : goal.returns
returns c = copy_comes
