-- What a packet belongs to that could not be sent (RFC 3261 16.9).
use Rattle.std.specs.Prelude.{ℕ, ◌==◌, List, Option, Some, None, find, option_map}
use Rattle.std.specs.Option.{option_and_then}
use Rattle.sip_proxy.specs.context_model.Branches.{send_failed}
use Rattle.sip_event.specs.declared.packet.Ticket.{Ticket}
use Rattle.sip_proxy.specs.steps_model.Effect.{Effect, changed, nothing}
use Rattle.sip_proxy.specs.steps_model.Step.{is_failed}
use Rattle.sip_dialog_updates.specs.state.declared.branch.Branch.{Branch}
use Rattle.sip_dialog_updates.specs.state.declared.open_request.OpenRequest.{OpenRequest}
use Rattle.sip_dialog_updates.specs.state.declared.proxy_state.ProxyState.{ProxyState}
use Rattle.sip_dialog_updates.specs.state.declared.server.Server.{Server}

-- the open request of a ticket, with the branch that the ticket names, if nothing was heard of that
abbrev pub failed_of : Ticket → List OpenRequest → Option (OpenRequest × Branch)
failed_of ticket requests =
    option_and_then (λ (r : OpenRequest). option_map (λ (b : Branch). (r, b)) (find (is_failed ticket.branch) r.branches))
    (find (λ (r : OpenRequest). r.number == ticket.datagram) requests)

-- what a branch does that could not be sent to, if there is one: it counts as 503
abbrev pub failing : Server → ℕ → ProxyState → Option (OpenRequest × Branch) → Effect
failing server now state None = nothing state
failing server now state (Some found) = changed server now state (send_failed server now found.0 found.1)
