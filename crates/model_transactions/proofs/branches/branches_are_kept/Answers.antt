use Rattle.model_transactions.proofs.BranchEvents.{responds, is_overdue, side_is_overdue, fails, cancels}
use Rattle.model_transactions.proofs.branches.branches_are_kept.Goals as goal

pub returns-clause-responded : goal.returns-clause-responded
returns-clause-responded c = responds

pub returns-clause-overdue : goal.returns-clause-overdue
returns-clause-overdue c = is_overdue

pub returns-clause-side_overdue : goal.returns-clause-side_overdue
returns-clause-side_overdue c = side_is_overdue

pub returns-clause-send_failed : goal.returns-clause-send_failed
returns-clause-send_failed c = fails

pub returns-clause-cancelled : goal.returns-clause-cancelled
returns-clause-cancelled c = cancels
