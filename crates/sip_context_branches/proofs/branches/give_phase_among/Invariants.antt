use Rattle.std.proofs.Common.{◌≡◌, ◌++◌, map, take, drop}
use Rattle.model_context.specs.Branches.{phased}
use Rattle.sip_context_branches.proofs.branches.give_phase_among.Given as goal

abbrev pub invariant-loop-place : goal.invariant-loop-place
invariant-loop-place l = l.branches ≡ map (phased (record l.branch { final_to = l.final_to }) l.phase) (take l.place-index l.fn.branches)
    ++ drop l.place-index l.fn.branches
