use Rattle.std.proofs.Common.{◌≡◌, ◌≤◌, take}
use Rattle.std.specs.Prelude.{count_by}
use Rattle.sip_dialog_updates.specs.state.declared.branch.Branch.{Branch}
use Rattle.model_steps.specs.context_model.Branches.{is_same_branch}
use Rattle.sip_fork.proofs.quiet_ending.is_alone.Given as goal

abbrev pub invariant-loop-other : goal.invariant-loop-other
invariant-loop-other l = (l.count ≡ count_by (λ (x : Branch). is_same_branch x l.branch) (take l.other-index l.branches)) × (l.count ≤ l.other-index)
