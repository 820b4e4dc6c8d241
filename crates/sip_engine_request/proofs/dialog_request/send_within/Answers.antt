use Rattle.sip_engine_request.proofs.Forked.{within_does}
use Rattle.sip_engine_request.proofs.dialog_request.send_within.Goals as goal

pub returns-clause-does : goal.returns-clause-does
returns-clause-does g c =
    within_does c.args.configured.now.hops.now.addresses c.args.configured.now.server.now c.args.request.arrival c.args.request.request c.args.address c.args.id
    c.in_ok-forwarded.forwarded.request c.new.result c.in_ok-forwarded.forwarded.packets
    c.in_ok-packets.packets c.in_ok-forwarded.forwarded.updates c.args.proxy.now.state c.take_request.new.proxy.state c.args.request.from_is c.requires.space
    c.args.configured.now.rows
    c.in_ok-forwarded.ensures.sent c.in_ok-packets.ensures.packets
    c.new.ensures c.in_ok-forwarded.ensures.request c.in_ok-forwarded.ensures.updates c.in_ok-packets.ensures.becomes
