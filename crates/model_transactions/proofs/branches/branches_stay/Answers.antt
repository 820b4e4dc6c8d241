use Rattle.model_transactions.proofs.BranchEvents.{acknowledges, goes_again, stays}
use Rattle.model_transactions.proofs.branches.branches_stay.Goals as goal

pub returns-clause-branch_again : goal.returns-clause-branch_again
returns-clause-branch_again c = goes_again

pub returns-clause-acknowledged : goal.returns-clause-acknowledged
returns-clause-acknowledged c = acknowledges

pub returns-clause-unchanged : goal.returns-clause-unchanged
returns-clause-unchanged c = stays
