use Rattle.sip_engine_request.proofs.Counted.{counted_is}
use Rattle.sip_engine_request.proofs.forwarded_request.take_updates.Goals as goal

pub returns-clause-becomes : goal.returns-clause-becomes
returns-clause-becomes g c =
    counted_is c.args.arrival c.args.proxy.now.state.requests c.args.updates c.args.proxy.now.state c.learn.new.self.state c.count.new.self.state
    c.requires.coming.number_is c.in_ok-learn.ensures.becomes
    c.count.ensures.counted
