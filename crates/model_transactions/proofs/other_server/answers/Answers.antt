use Rattle.model_transactions.proofs.OtherServerSteps.{answer_goes}
use Rattle.model_transactions.proofs.other_server.answers.Goals as goal

pub returns : goal.returns
returns c = answer_goes
