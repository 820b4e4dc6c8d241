use Rattle.std.proofs.Common.{arith}
use Rattle.model_context.specs.Branches.{marked_branch}
use Rattle.sip_context_branches.proofs.Lists.{one_more}
use Rattle.sip_context_branches.proofs.branches.mark_among.Goals as goal

pub loop-branch-preserved : goal.loop-branch-preserved
loop-branch-preserved c =
    one_more marked_branch c.args.branches.now c.loop-branch.branches c.loop-branch.branch-index c.mark_branch.new.branch c.branch-item.result c.loop-branch.invariant
    (omega arith) c.mark_branch.ensures
