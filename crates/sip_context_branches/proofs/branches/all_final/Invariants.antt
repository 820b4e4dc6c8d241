use Rattle.std.proofs.Common.{◌≡◌, drop}
use Rattle.std.specs.Prelude.{filter, not}
use Rattle.std.specs.List.{list_all}
use Rattle.model_context.specs.state.declared.branch.Branch.{Branch}
use Rattle.model_context.specs.state.State.{is_final}
use Rattle.sip_context_branches.proofs.branches.all_final.Given as goal

abbrev pub invariant-loop-branch : goal.invariant-loop-branch
invariant-loop-branch l =
    list_all (λ (b : Branch). is_final b.phase) (filter (λ (b : Branch). not b.is_cancel) (drop l.branch-index l.branches))
    ≡ list_all (λ (b : Branch). is_final b.phase) (filter (λ (b : Branch). not b.is_cancel) l.branches)
