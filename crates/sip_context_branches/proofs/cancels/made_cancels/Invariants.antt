use Rattle.std.proofs.Common.{◌≡◌, map, take}
use Rattle.std.specs.Prelude.{filter}
use Rattle.model_context.specs.Branches.{is_cancellable, cancel_branch}
use Rattle.sip_context_branches.proofs.cancels.made_cancels.Given as goal

abbrev pub invariant-loop-branch : goal.invariant-loop-branch
invariant-loop-branch l = l.cancels ≡ map (cancel_branch l.now) (filter is_cancellable (take l.branch-index l.branches))
