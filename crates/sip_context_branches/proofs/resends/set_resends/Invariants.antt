use Rattle.std.proofs.Common.{◌≡◌, ◌++◌, map, take, drop}
use Rattle.model_context.specs.Retransmission.{resent_branch}
use Rattle.sip_context_branches.proofs.resends.set_resends.Given as goal

abbrev pub invariant-loop-place : goal.invariant-loop-place
invariant-loop-place l = l.branches ≡ map (resent_branch l.branch l.next) (take l.place-index l.fn.branches) ++ drop l.place-index l.fn.branches
