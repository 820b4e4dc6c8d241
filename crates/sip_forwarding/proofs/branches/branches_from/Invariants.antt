use Rattle.std.proofs.Common.{◌≡◌, ◌+◌, ◌++◌, drop}
use Rattle.sip_context_branches.specs.context_model.Opening.{branches_from}
use Rattle.sip_forwarding.proofs.branches.branches_from.Given as goal

-- the branches so far, in front of those to the targets that are left
abbrev pub invariant-loop-target : goal.invariant-loop-target
invariant-loop-target l = (l.number ≡ l.target-index + 1) × (l.branches ++ branches_from l.now l.number (drop l.target-index l.targets) ≡ branches_from l.now 1 l.targets)
