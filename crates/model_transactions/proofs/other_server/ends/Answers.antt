use Rattle.model_transactions.proofs.OtherServerSteps.{fires_j}
use Rattle.model_transactions.proofs.other_server.ends.Goals as goal

pub returns : goal.returns
returns c = fires_j
