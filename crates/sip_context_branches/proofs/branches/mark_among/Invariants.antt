use Rattle.std.proofs.Common.{◌≡◌, ◌++◌, map, take, drop}
use Rattle.model_context.specs.Branches.{marked_branch}
use Rattle.sip_context_branches.proofs.branches.mark_among.Given as goal

abbrev pub invariant-loop-branch : goal.invariant-loop-branch
invariant-loop-branch l = l.branches ≡ map marked_branch (take l.branch-index l.fn.branches) ++ drop l.branch-index l.fn.branches
