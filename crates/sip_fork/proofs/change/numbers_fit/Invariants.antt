use Rattle.std.proofs.Common.{◌<◌, ◌^◌, drop}
use Rattle.std.specs.List.{AllByRecursion}
use Rattle.sip_dialog_updates.specs.state.declared.branch.Branch.{Branch}
use Rattle.sip_fork.proofs.change.numbers_fit.Given as goal

-- so it is if it is so of the branches that are left
abbrev pub invariant-loop-branch : goal.invariant-loop-branch
invariant-loop-branch l = AllByRecursion (λ (b : Branch). b.number < 2 ^ 32) (drop l.branch-index l.branches)
    → AllByRecursion (λ (b : Branch). b.number < 2 ^ 32) l.branches
