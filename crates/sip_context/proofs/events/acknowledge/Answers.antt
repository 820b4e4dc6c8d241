use Rattle.std.proofs.Common.{[]}
use Rattle.sip_context_branches.specs.context_model.Branches.{acknowledged}
use Rattle.sip_context.proofs.Joined.{repeated}
use Rattle.sip_context.proofs.events.acknowledge.Goals as goal

pub returns : goal.returns
returns c = repeated c.take_ack.new.request (acknowledged c.args.now c.args.request.now) c.again.result c.new.result [] c.again.ensures c.take_ack.ensures c.new.ensures
