use Rattle.std.proofs.Common.{◌≡◌, take}
use Rattle.sip_context_branches.specs.context_model.Opening as Definitions
use Rattle.sip_forwarding.proofs.forks.unsent.Given as goal

-- the answers of the branches so far
abbrev pub invariant-loop-branch : goal.invariant-loop-branch
invariant-loop-branch l = l.finals ≡ Definitions.unsent (take l.branch-index l.branches)
