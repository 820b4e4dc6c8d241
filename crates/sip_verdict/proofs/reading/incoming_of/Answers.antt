use Rattle.std.proofs.Common.{◌∙◌, sym, ap}
use Rattle.sip_message_form.specs.ViewStart.{start_seen}
use Rattle.sip_verdict.proofs.DecidingKeys.{of_request, of_response}
use Rattle.sip_verdict.proofs.reading.incoming_of.Goals as goal

pub returns-in-Request : goal.returns-in-Request
returns-in-Request c =
    of_request c.request_of.result c.args.own_vias.now c.args.message.now c.args.short c.in-Request.method.now c.in-Request.uri.now c.in-Request.version
    (sym c.start.ensures ∙ ap start_seen c.in-Request.is) c.request_of.ensures

pub returns-in-Status : goal.returns-in-Status
returns-in-Status c =
    of_response c.response_of.result c.args.own_vias.now c.args.message.now c.args.short c.in-Status.code c.in-Status.reason.now
    (sym c.start.ensures ∙ ap start_seen c.in-Status.is) c.response_of.ensures
