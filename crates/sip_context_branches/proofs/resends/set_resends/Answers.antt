use Rattle.std.proofs.Common.{arith}
use Rattle.model_context.specs.Retransmission.{resent_branch}
use Rattle.sip_context_branches.proofs.Lists.{one_more}
use Rattle.sip_context_branches.proofs.resends.set_resends.Goals as goal

pub loop-place-preserved : goal.loop-place-preserved
loop-place-preserved c =
    one_more (resent_branch c.args.branch.now c.args.next) c.args.branches.now c.loop-place.branches c.loop-place.place-index c.set_resend.new.place c.place-item.result
    c.loop-place.invariant (omega arith) c.set_resend.ensures
