use Rattle.std.proofs.Common.{[]}
use Rattle.sip_context_branches.specs.context_model.Branches.{overdue}
use Rattle.sip_context.proofs.Joined.{changed}
use Rattle.sip_context.proofs.events.expire_branch.Goals as goal

pub returns : goal.returns
returns c = changed c.pass_branch.new.request c.with_copies.result c.in_ok-sent.sent c.new.result []
    (overdue c.args.server.now c.args.now c.args.request.now c.args.branch.now) c.with_copies.ensures c.in_ok-sent.ensures c.new.ensures
