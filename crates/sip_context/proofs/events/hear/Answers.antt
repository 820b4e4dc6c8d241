use Rattle.sip_context_branches.specs.context_model.Branches.{responded}
use Rattle.sip_context_branches.specs.context_model.Retransmission.{acked_again}
use Rattle.sip_context.proofs.Joined.{changed}
use Rattle.sip_context.proofs.events.hear.Goals as goal

pub returns : goal.returns
returns c =
    changed c.take_response.new.request c.with_copies.result c.in_ok-sent.sent c.in_ok-copies.copies
    (acked_again c.args.server.now c.args.request.now c.args.branch.now c.args.status)
    (responded c.args.server.now c.args.now c.args.request.now c.args.branch.now c.args.status c.args.response.now) c.with_copies.ensures c.in_ok-sent.ensures
    c.in_ok-copies.ensures
