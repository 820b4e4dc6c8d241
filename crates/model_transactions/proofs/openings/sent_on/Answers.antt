use Rattle.std.proofs.Common.{[], ◌∷◌}
use Rattle.sip_context_branches.specs.context_model.Opening.{branches_from, dialog_branch, forking}
use Rattle.model_transactions.proofs.Opened.{targets_within, dialog_within, forking_within, opening_within}
use Rattle.model_transactions.proofs.openings.sent_on.Goals as goal

pub returns-clause-forking : goal.returns-clause-forking
returns-clause-forking c = forking_within

pub returns-clause-opening : goal.returns-clause-opening
returns-clause-opening c = opening_within

pub returns-clause-targets : goal.returns-clause-targets
returns-clause-targets c = λ server a m number targets.
    let branches = branches_from a.now number targets in
    opening_within server a.now (forking a m branches) (forking_within a m branches (targets_within a.now number targets))

pub returns-clause-dialog : goal.returns-clause-dialog
returns-clause-dialog c = λ server a m address.
    let branches = dialog_branch server a.now m address ∷ [] in
    opening_within server a.now (forking a m branches) (forking_within a m branches (dialog_within server a.now m address, tt))
