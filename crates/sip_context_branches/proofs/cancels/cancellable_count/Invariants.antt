use Rattle.std.proofs.Common.{◌≡◌, ◌≤◌, take}
use Rattle.std.specs.Prelude.{count_by}
use Rattle.model_context.specs.Branches.{is_cancellable}
use Rattle.sip_context_branches.proofs.cancels.cancellable_count.Given as goal

abbrev pub invariant-loop-branch : goal.invariant-loop-branch
invariant-loop-branch l = (l.count ≡ count_by is_cancellable (take l.branch-index l.branches)) × (l.count ≤ l.branch-index)
