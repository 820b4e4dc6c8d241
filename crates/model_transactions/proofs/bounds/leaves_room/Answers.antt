use Rattle.sip_context_branches.specs.state.declared.branch.Branch.{Branch}
use Rattle.sip_context_branches.specs.Early.{IsEarly}
use Rattle.model_transactions.specs.Near.{IsBranchWithin}
use Rattle.model_transactions.proofs.Lists.{all_weaker}
use Rattle.model_transactions.proofs.Near.{phase_early}
use Rattle.model_transactions.proofs.bounds.leaves_room.Goals as goal

pub returns-clause-branch : goal.returns-clause-branch
returns-clause-branch c = λ bound b h w. phase_early bound b.phase h w.phase_near

pub returns-clause-request : goal.returns-clause-request
returns-clause-request c = λ bound r h w. all_weaker (IsBranchWithin bound) (λ (b : Branch). IsEarly b.phase) (λ b e. phase_early bound b.phase h e.phase_near) r.branches
    w.branches_within
