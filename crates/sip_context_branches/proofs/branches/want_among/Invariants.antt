use Rattle.std.proofs.Common.{◌≡◌, ◌++◌, map, take, drop, true}
use Rattle.std.specs.Prelude.{if◌then◌else◌}
use Rattle.model_context.specs.state.declared.branch.Branch.{Branch}
use Rattle.model_context.specs.Branches.{is_same_branch}
use Rattle.sip_context_branches.proofs.branches.want_among.Given as goal

abbrev pub invariant-loop-place : goal.invariant-loop-place
invariant-loop-place l =
    l.branches ≡ map (λ (x : Branch). if is_same_branch x l.branch then record x { wants_cancel = true } else x) (take l.place-index l.fn.branches)
    ++ drop l.place-index l.fn.branches
