use Rattle.sip_forwarding.proofs.Keys.{closes, packet_is}
use Rattle.sip_forwarding.proofs.replying.reply.Goals as goal

pub returns-clause-packet : goal.returns-clause-packet
returns-clause-packet c =
    packet_is c.args.server.now c.args.arrival.number c.args.status c.args.extras.now c.get.result.now c.args.request c.in_ok-made.made.packet
    c.in_ok-made.ensures.packet c.get.ensures

pub returns-clause-request : goal.returns-clause-request
returns-clause-request c =
    closes c.args.server.now c.args.arrival c.args.status c.args.extras.now c.get.result.now c.args.request c.in_ok-made.made.answer
    c.closing-request.result c.closing-request.ensures c.in_ok-made.ensures.answer c.get.ensures
