use Rattle.std.proofs.Common.{[]}
use Rattle.sip_context_branches.specs.context_model.Branches.{send_failed}
use Rattle.sip_context.proofs.Joined.{changed}
use Rattle.sip_context.proofs.events.fail.Goals as goal

pub returns : goal.returns
returns c = changed c.take_fault.new.request c.with_copies.result c.in_ok-sent.sent c.new.result []
    (send_failed c.args.server.now c.args.now c.args.request.now c.args.branch.now) c.with_copies.ensures c.in_ok-sent.ensures c.new.ensures
