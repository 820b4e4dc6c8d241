-- What an input makes of a request, by way of a copy of it.
use Rattle.std.proofs.Common.{◌≡◌, ℕ, ap, ◌∙◌}
use Rattle.sip_dialog_updates.specs.state.declared.open_request.OpenRequest.{OpenRequest}
use Rattle.sip_dialog_updates.specs.state.declared.server.Server.{Server}
use Rattle.sip_context.specs.declared.input.Input.{Input}
use Rattle.sip_context.specs.declared.sent.Sent.{Sent}
use Rattle.sip_context.specs.Inputs.{outcome, outcome_of}

pub planned : (server : Server) (now : ℕ) (input : Input) (sent : Sent) (was copy after : OpenRequest)
    → copy ≡ was → outcome after sent ≡ outcome_of server now copy input → outcome after sent ≡ outcome_of server now was input
planned server now input sent was copy after same taken = taken ∙ ap (λ (r : OpenRequest). outcome_of server now r input) same
