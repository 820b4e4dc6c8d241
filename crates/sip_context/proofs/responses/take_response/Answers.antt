use Rattle.std.proofs.Common.{◌∙◌}
use Rattle.sip_context.proofs.Settled.{cancel_is}
use Rattle.sip_context.proofs.responses.take_response.Goals as goal

pub returns-then-branch : goal.returns-then-branch
returns-then-branch c =
    c.in_ok-sent.ensures c.args.response.now ∙ cancel_is c.args.server.now c.args.now c.args.request.now c.args.branch.now c.args.status c.args.response.now
    c.if-branch.true
