use Rattle.model_transactions.specs.InviteServer.{BeforeAnswer}
use Rattle.model_transactions.proofs.invite_server.begins.Goals as goal

pub returns-clause-fits : goal.returns-clause-fits
returns-clause-fits c = BeforeAnswer
