use Rattle.sip_engine_request.proofs.ForwardCounted.{opened_is}
use Rattle.sip_engine_request.proofs.forwarded_request.take_request.Goals as goal

pub returns-clause-becomes : goal.returns-clause-becomes
returns-clause-becomes g c =
    opened_is c.args.arrival c.in_ok-opening.opening c.args.forwarded.request c.args.forwarded.updates c.args.proxy.now.state c.open.new.self.state c.count.new.self.state
    c.requires.coming.number_is
    c.in_ok-opening.ensures c.in_ok-open.ensures.becomes c.count.ensures.counted
