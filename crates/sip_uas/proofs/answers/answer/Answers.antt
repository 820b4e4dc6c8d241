use Rattle.sip_forwarding.specs.Arrivals.{arrival_of}
use Rattle.model_transactions.specs.Fits.{IsFinalAnswer}
use Rattle.sip_uas.proofs.Replying.{closing_from, packet_from, replied_does, replied_opens, text_by}
use Rattle.sip_uas.proofs.answers.answer.Goals as goal

pub returns-clause-does : goal.returns-clause-does
returns-clause-does c =
    replied_does c.drafted.result c.args.server.now c.args.request.arrival c.args.request.request.message c.args.said.now.status c.args.said.now.extras.now c.args.records
    c.args.is_full
    c.in_ok-replied.replied.packet c.in_ok-replied.replied.request
    (packet_from c.args.server.now c.args.request.arrival c.args.request.request c.args.said.now.status c.args.said.now.extras.now c.in_ok-replied.replied.packet
    c.args.request.from_is c.in_ok-replied.ensures.packet)
    (closing_from c.args.server.now c.args.request.arrival c.args.request.request c.args.said.now.status c.args.said.now.extras.now c.in_ok-replied.replied.request
    c.args.request.from_is c.in_ok-replied.ensures.request)
    c.drafted.ensures

pub returns-clause-opens : goal.returns-clause-opens
returns-clause-opens c =
    let text = text_by c.args.server.now c.args.request.arrival c.args.request.request.message c.args.said.now.status c.args.said.now.extras.now in
    replied_opens c.drafted.result c.args.request.arrival c.args.request.key c.args.request.request.message c.args.said.now.status text c.args.records c.args.is_full
    c.in_ok-replied.replied.packet
    c.in_ok-replied.replied.request
    c.args.request.key_is
    (closing_from c.args.server.now c.args.request.arrival c.args.request.request c.args.said.now.status c.args.said.now.extras.now c.in_ok-replied.replied.request
    c.args.request.from_is c.in_ok-replied.ensures.request)
    (c.answered_at_once.ensures (arrival_of c.args.request.arrival) c.args.request.request.message
    c.args.said.now.status text) c.drafted.ensures
    (IsFinalAnswer c.args.said.now.status) (c.opens_fitting.ensures.answered (arrival_of c.args.request.arrival) c.args.request.request.message c.args.said.now.status
    text)
