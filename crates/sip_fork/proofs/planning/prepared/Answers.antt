use Rattle.std.proofs.Common.{◌∙◌, ap}
use Rattle.sip_dialog_updates.specs.state.declared.open_request.OpenRequest.{OpenRequest}
use Rattle.sip_context.specs.Inputs.{outcome}
use Rattle.sip_fork.proofs.Copied.{planned}
use Rattle.sip_fork.proofs.planning.prepared.Goals as goal

pub returns : goal.returns
returns c =
    ap (λ (r : OpenRequest). outcome r c.in_ok-sent.sent) (c.of-change.ensures ∙ c.give_keys.ensures.request)
    ∙ planned c.args.server.now c.args.now c.args.input c.in_ok-sent.sent c.args.request.now c.in_ok-row.row.open_request c.take_in.new.row.open_request
    c.in_ok-row.ensures c.in_ok-sent.ensures
