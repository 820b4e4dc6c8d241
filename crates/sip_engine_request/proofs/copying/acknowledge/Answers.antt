use Rattle.sip_engine_request.proofs.Effects.{acknowledged_done}
use Rattle.sip_engine_request.proofs.copying.acknowledge.Goals as goal

pub returns-clause-does : goal.returns-clause-does
returns-clause-does g c =
    acknowledged_done c.args.arrival c.args.proxy.now.state c.change.new.proxy.state c.args.place c.in_ok-draft.draft c.change.result c.in_ok-draft.ensures.request
    c.in_ok-draft.ensures.sends
    c.in_ok-draft.ensures.tells c.change.ensures.leaves
