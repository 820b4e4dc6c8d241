use Rattle.model_transactions.proofs.Opened.{targets_within, dialog_within}
use Rattle.model_transactions.proofs.openings.branches_begin.Goals as goal

pub returns-clause-targets : goal.returns-clause-targets
returns-clause-targets c = targets_within

pub returns-clause-dialog : goal.returns-clause-dialog
returns-clause-dialog c = dialog_within
