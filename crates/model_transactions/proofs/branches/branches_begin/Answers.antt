use Rattle.model_transactions.proofs.BranchEvents.{begin_branched, begins, dialog_branched, opens}
use Rattle.model_transactions.proofs.branches.branches_begin.Goals as goal

pub returns-clause-targets : goal.returns-clause-targets
returns-clause-targets c = begin_branched

pub returns-clause-dialog : goal.returns-clause-dialog
returns-clause-dialog c = dialog_branched

pub returns-clause-opening : goal.returns-clause-opening
returns-clause-opening c = opens

pub returns-clause-joined : goal.returns-clause-joined
returns-clause-joined c = begins
