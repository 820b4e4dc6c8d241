use Rattle.std.proofs.Common.{arith}
use Rattle.model_context.specs.Branches.{phased}
use Rattle.sip_context_branches.proofs.Lists.{one_more}
use Rattle.sip_context_branches.proofs.branches.give_phase_among.Goals as goal

pub loop-place-preserved : goal.loop-place-preserved
loop-place-preserved c =
    one_more (phased (record c.args.branch.now { final_to = c.args.final_to.now }) c.args.phase) c.args.branches.now c.loop-place.branches c.loop-place.place-index
    c.give_phase_if_same.new.place c.place-item.result c.loop-place.invariant (omega arith) c.in_ok-give_phase_if_same.ensures
