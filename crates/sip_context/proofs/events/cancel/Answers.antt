use Rattle.std.proofs.Common.{[]}
use Rattle.sip_context_branches.specs.context_model.Branches.{cancelled}
use Rattle.sip_context.proofs.Joined.{changed}
use Rattle.sip_context.proofs.events.cancel.Goals as goal

pub returns : goal.returns
returns c = changed c.take_cancel.new.request c.with_copies.result c.in_ok-sent.sent c.new.result [] (cancelled c.args.server.now c.args.now c.args.request.now)
    c.with_copies.ensures c.in_ok-sent.ensures c.new.ensures
