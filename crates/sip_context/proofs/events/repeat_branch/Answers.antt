use Rattle.std.proofs.Common.{true}
use Rattle.sip_context_branches.specs.context_model.Sending.{branch_packets}
use Rattle.sip_context_branches.specs.context_model.Retransmission.{with_resend}
use Rattle.sip_context.proofs.Joined.{repeated}
use Rattle.sip_context.proofs.events.repeat_branch.Goals as goal

pub returns : goal.returns
returns c =
    repeated c.branch_went.new.request (with_resend c.args.branch.now c.args.request.now) c.again.result c.in_ok-copies.copies
    (branch_packets c.args.server.now true c.args.request.now c.args.branch.now)
    c.again.ensures c.branch_went.ensures c.in_ok-copies.ensures
