use Rattle.std.proofs.Common.{◌∙◌, ℕ, List, false, ap, refl}
use Rattle.sip_proxy.specs.verdict.context_model.Opening.{closing}
use Rattle.sip_proxy.specs.verdict.context_model.Sending.{answer_packet}
use Rattle.sip_message_fields.specs.declared.field.Field.{Field}
use Rattle.sip_uas.specs.forwarding.Arrivals.{arrival_of}
use Rattle.sip_engine_request.proofs.Cancels.{agreed_opens}
use Rattle.sip_uas.proofs.Replying.{closing_from, packet_from, text_by}
use Rattle.sip_engine_request.proofs.cancelling.agree.Goals as goal

pub returns-clause-packet : goal.returns-clause-packet
returns-clause-packet c =
    packet_from c.args.server.now c.args.cancel.arrival c.args.cancel.request 200 c.new-extras.result c.in_ok-replied.replied.packet c.args.cancel.from_is
    c.in_ok-replied.ensures.packet
    ∙ ap (λ (extras : List Field). answer_packet false c.args.cancel.arrival.number c.args.cancel.request.message c.args.cancel.arrival.from
    (text_by c.args.server.now c.args.cancel.arrival c.args.cancel.request.message 200 extras)) c.new-extras.ensures

pub returns-clause-opened : goal.returns-clause-opened
returns-clause-opened c =
    c.in_ok-opened.ensures
    ∙ closing_from c.args.server.now c.args.cancel.arrival c.args.cancel.request 200 c.new-extras.result c.in_ok-replied.replied.request c.args.cancel.from_is
    c.in_ok-replied.ensures.request
    ∙ ap (λ (extras : List Field). closing (arrival_of c.args.cancel.arrival) c.args.cancel.request.message 200
    (text_by c.args.server.now c.args.cancel.arrival c.args.cancel.request.message 200 extras)) c.new-extras.ensures

pub returns-clause-opens : goal.returns-clause-opens
returns-clause-opens c =
    let text : List ℕ = text_by c.args.server.now c.args.cancel.arrival c.args.cancel.request.message 200 c.new-extras.result in
    agreed_opens c.args.cancel.arrival c.args.cancel.key c.args.cancel.request.message text c.in_ok-opened.opened c.args.cancel.key_is
    (
    c.in_ok-opened.ensures
    ∙ closing_from c.args.server.now c.args.cancel.arrival c.args.cancel.request 200 c.new-extras.result c.in_ok-replied.replied.request c.args.cancel.from_is
    c.in_ok-replied.ensures.request
    )
    (c.opens_fitting.ensures.answered (arrival_of c.args.cancel.arrival) c.args.cancel.request.message 200 text refl)
    (c.answered_at_once.ensures (arrival_of c.args.cancel.arrival) c.args.cancel.request.message 200 text)
