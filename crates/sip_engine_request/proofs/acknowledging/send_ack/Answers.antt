use Rattle.sip_engine_request.proofs.Forked.{ack_does}
use Rattle.sip_engine_request.proofs.acknowledging.send_ack.Goals as goal

pub returns-clause-does : goal.returns-clause-does
returns-clause-does g c =
    ack_does c.args.configured.now.hops.now.addresses c.args.configured.now.server.now c.args.request.now.arrival c.args.request.now.message.now c.args.address c.args.id
    c.in_ok-ack.ack.packet c.in_ok-packets.packets c.push.new.self c.new.result c.in_ok-ack.ack.updates
    c.args.proxy.now.state c.take_updates.new.proxy.state c.args.configured.now.rows c.in_ok-ack.ensures.packet c.in_ok-packets.ensures c.in_ok-push.ensures.ok
    c.new.ensures c.in_ok-ack.ensures.updates
    c.in_ok-take_updates.ensures.becomes
