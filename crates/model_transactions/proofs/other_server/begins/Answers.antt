use Rattle.model_transactions.specs.OtherServer.{BeforeAnswer}
use Rattle.model_transactions.proofs.other_server.begins.Goals as goal

pub returns-clause-fits : goal.returns-clause-fits
returns-clause-fits c = BeforeAnswer
