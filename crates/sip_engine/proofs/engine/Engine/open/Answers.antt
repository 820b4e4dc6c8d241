use Rattle.std.proofs.Common.{[]}
use Rattle.sip_engine.proofs.engine.Engine.open.Goals as goal

pub invariant_of-result : goal.invariant_of-result
invariant_of-result g c = record { first = c.args.boot.first; history = []; chain = c.in_ok-proxy.ensures.state }
