use Rattle.model_transactions.proofs.OtherClientSteps.{fires_f, fires_k, fails, fails_late}
use Rattle.model_transactions.proofs.other_client.ends.Goals as goal

pub returns-clause-unanswered : goal.returns-clause-unanswered
returns-clause-unanswered c = fires_f

pub returns-clause-over : goal.returns-clause-over
returns-clause-over c = fires_k

pub returns-clause-unsent : goal.returns-clause-unsent
returns-clause-unsent c = fails

pub returns-clause-late_fault : goal.returns-clause-late_fault
returns-clause-late_fault c = fails_late
