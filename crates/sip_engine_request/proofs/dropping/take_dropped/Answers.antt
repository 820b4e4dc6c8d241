use Rattle.sip_engine_request.proofs.Effects.{nothing_done}
use Rattle.sip_engine_request.proofs.dropping.take_dropped.Goals as goal

pub returns-clause-says_none : goal.returns-clause-says_none
returns-clause-says_none g c = λ server. nothing_done server c.args.arrival c.args.proxy.now.state c.pass.new.proxy.state c.new.result c.pass.result c.new.ensures
    c.pass.ensures.leaves

pub returns-clause-drops : goal.returns-clause-drops
returns-clause-drops g c = λ server m. nothing_done server c.args.arrival c.args.proxy.now.state c.pass.new.proxy.state c.new.result c.pass.result c.new.ensures
    c.pass.ensures.leaves
