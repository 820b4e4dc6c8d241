-- What a step of a datagram that belongs to an open request, or is dropped, is made of.
use Rattle.std.specs.Prelude.{ℕ, ◌≡◌, ◌≤◌, List, []}
use Rattle.sip_event.specs.declared.event.StepOut.{StepOut}
use Rattle.sip_event.specs.declared.packet.Packet.{Packet}
use Rattle.sip_proxy.specs.verdict.context_model.Branches.{Change}
use Rattle.sip_proxy.specs.declared.drafting.EventDraft.{EventDraft}
use Rattle.sip_dialog.specs.declared.dialog.Dialog.{Dialog}
use Rattle.sip_proxy.specs.fork.Keeping.{IsKeptAs}
use Rattle.sip_proxy.specs.forwarding.Forwarding.{AreSent, Teach}
use Rattle.sip_hops.specs.declared.host_address.HostAddress.{HostAddress}
use Rattle.sip_dialog_updates.specs.DialogUpdates.{beginnings}
use Rattle.sip_proxy.specs.steps_model.Effect.{change_packets, counted, dialogs_after}
use Rattle.sip_proxy.specs.forwarding.Arrivals.{arrival_of}
use Rattle.sip_proxy.specs.forwarding.declared.arrival.Arrival.{Arrival}
use Rattle.sip_dialog_updates.specs.state.SameState.{SameState}
use Rattle.sip_dialog_updates.specs.state.declared.open_request.OpenRequest.{OpenRequest}
use Rattle.sip_dialog_updates.specs.state.declared.proxy_state.ProxyState.{ProxyState}
use Rattle.sip_dialog_updates.specs.state.declared.server.Server.{Server}

-- the state after a datagram that took its number, with these open requests and these dialogs
abbrev pub left_by : Arrival → List OpenRequest → List Dialog → ProxyState → ProxyState
left_by a requests dialogs old = record (counted (arrival_of a) old) { moment = a.now; requests = requests; dialogs = dialogs }

-- At its moment a datagram took its number, and a step put out these packets and no record; it left these open requests and these
-- dialogs, and all else as it was.
pub record Leaves (a : Arrival) (packets : List Packet) (requests : List OpenRequest) (dialogs : List Dialog) (old : ProxyState)
    (out : StepOut) (new : ProxyState) : Type 0 where
  pub at_moment : out.at ≡ a.now
  pub packets_are : out.packets ≡ packets
  pub records_are : out.records ≡ []
  pub leaves : SameState new (left_by a requests dialogs old)

-- What was drafted of a change of an open request: the request as it becomes, which is kept; what is sent for the first time, and
-- what goes again beside it; and what the dialogs learn, of which at
-- most one begins (RFC 3261 12, 16.7).
pub record IsDraftOf (rows : List HostAddress) (server : Server) (now : ℕ) (r : OpenRequest) (change : Change) (copies : List Packet)
    (draft : EventDraft) : Type 0 where
  pub request : draft.change ≡ change.request
  pub kept : IsKeptAs now r draft.change
  pub sent : AreSent (change_packets change) copies draft.drafted.packets
  pub updates : Teach rows server now draft.drafted.updates (dialogs_after server now change)
  pub few : beginnings draft.drafted.updates ≤ 1
