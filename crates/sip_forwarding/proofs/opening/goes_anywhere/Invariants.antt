use Rattle.std.proofs.Common.{◌≡◌, drop}
use Rattle.std.specs.Prelude.{is_some}
use Rattle.std.specs.List.{list_any}
use Rattle.model_steps.specs.state.declared.branch.Branch.{Branch}
use Rattle.sip_forwarding.proofs.opening.goes_anywhere.Given as goal

-- whether one of those that are left has an address
abbrev pub invariant-loop-branch : goal.invariant-loop-branch
invariant-loop-branch l = list_any (λ (b : Branch). is_some b.address) (drop l.branch-index l.branches) ≡ list_any (λ (b : Branch). is_some b.address) l.branches
