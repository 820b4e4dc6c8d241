use Rattle.model_transactions.proofs.OtherServerSteps.{copy_comes}
use Rattle.model_transactions.proofs.other_server.hears_copy.Goals as goal

pub returns : goal.returns
returns c = copy_comes
