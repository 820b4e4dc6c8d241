use Rattle.model_transactions.proofs.InviteClientSteps.{fires_b, gives_up, fires_last, fails, fails_late}
use Rattle.model_transactions.proofs.invite_client.ends.Goals as goal

pub returns-clause-unanswered : goal.returns-clause-unanswered
returns-clause-unanswered c = fires_b

pub returns-clause-given_up : goal.returns-clause-given_up
returns-clause-given_up c = gives_up

pub returns-clause-over : goal.returns-clause-over
returns-clause-over c = fires_last

pub returns-clause-unsent : goal.returns-clause-unsent
returns-clause-unsent c = fails

pub returns-clause-late_fault : goal.returns-clause-late_fault
returns-clause-late_fault c = fails_late
