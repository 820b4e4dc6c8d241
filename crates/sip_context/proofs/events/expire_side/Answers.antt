use Rattle.std.proofs.Common.{[]}
use Rattle.sip_context_branches.specs.context_model.Branches.{side_overdue}
use Rattle.sip_context.proofs.Joined.{changed}
use Rattle.sip_context.proofs.events.expire_side.Goals as goal

pub returns : goal.returns
returns c = changed c.pass_side.new.request c.with_copies.result c.in_ok-sent.sent c.new.result [] (side_overdue c.args.server.now c.args.now c.args.request.now)
    c.with_copies.ensures c.in_ok-sent.ensures c.new.ensures
