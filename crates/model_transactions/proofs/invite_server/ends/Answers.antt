use Rattle.model_transactions.proofs.InviteServerSteps.{fires_h, fires_l, fires_i}
use Rattle.model_transactions.proofs.invite_server.ends.Goals as goal

pub returns-clause-refused : goal.returns-clause-refused
returns-clause-refused c = fires_h

pub returns-clause-accepted : goal.returns-clause-accepted
returns-clause-accepted c = fires_l

pub returns-clause-acknowledged : goal.returns-clause-acknowledged
returns-clause-acknowledged c = fires_i
