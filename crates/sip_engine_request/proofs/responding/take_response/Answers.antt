use Rattle.sip_engine_request.proofs.Effects.{response_done}
use Rattle.sip_engine_request.proofs.responding.take_response.Goals as goal

pub returns-clause-does : goal.returns-clause-does
returns-clause-does g c =
    response_done c.args.configured.now.server.now c.args.response.now.arrival c.args.proxy.now.state c.change.new.proxy.state c.args.configured.now.hops.now.addresses
    c.args.place c.args.branch c.args.response.now.status
    c.args.response.now.message.now
    c.in_ok-draft.draft c.change.result c.args.configured.now.rows c.in_ok-draft.ensures.draft c.change.ensures.leaves
