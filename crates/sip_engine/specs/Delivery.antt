-- What is one step for a datagram, and what a verdict asks for.
use Rattle.std.specs.Prelude.{Bool, ◌≡◌, false, ⊤, Option, Some, None}
use Rattle.sip_verdict.specs.Verdict.{Is}
use Rattle.sip_verdict.specs.declared.verdict.Verdict.{Verdict}
use Rattle.sip_verdict.specs.declared.verdict.Verdict.TheVariants as Arrived
use Rattle.sip_dialog.specs.declared.dialog.DialogId.{DialogId}
use Rattle.sip_uri.specs.declared.addr.Addr.{Addr}
use Rattle.sip_transaction_table.specs.declared.key.TransactionKey.{TransactionKey}
use Rattle.sip_engine_request.specs.forwarding.declared.arrival.Arrival.{Arrival}
use Rattle.sip_verdict.specs.state.declared.proxy_state.ProxyState.{ProxyState}
use Rattle.sip_verdict.specs.state.declared.server.Server.{Server}
use Rattle.sip_verdict.specs.verdict_model.Verdict as Definition
use Rattle.sip_engine_request.specs.uas.Asking.{AnswersFinally}

-- where an ACK goes on by what was decided about it, if it does
abbrev pub way_on : Verdict → Option (Addr × DialogId)
way_on Arrived.Dropped = None
way_on (Arrived.AckOn address id) = Some (address, id)
way_on Arrived.Cancel = None
way_on (Arrived.Answer status extras) = None
way_on (Arrived.InDialog address id) = None
way_on (Arrived.Judged judged) = None

-- A message is dropped, or sent on in its dialog without a transaction.
abbrev pub IsDroppedOrOn : Definition.Verdict → Type 0
IsDroppedOrOn Definition.Drop = ⊤
IsDroppedOrOn (Definition.Respond r b status) = ⊥
IsDroppedOrOn (Definition.Copy r) = ⊥
IsDroppedOrOn (Definition.AckOn address id) = ⊤
IsDroppedOrOn (Definition.Cancel found) = ⊥
IsDroppedOrOn (Definition.Answer status extras) = ⊥
IsDroppedOrOn (Definition.InDialog address id) = ⊥
IsDroppedOrOn (Definition.Challenge q) = ⊥
IsDroppedOrOn (Definition.Deny q id) = ⊥
IsDroppedOrOn (Definition.Send q id targets) = ⊥
IsDroppedOrOn (Definition.Register q id registered) = ⊥

-- There is room for one more open request, where a verdict is to serve the request (this project's profile: 503 without).
abbrev pub NeedsRoom : Bool → Definition.Verdict → Type 0
NeedsRoom full Definition.Drop = ⊤
NeedsRoom full (Definition.Respond r b status) = ⊤
NeedsRoom full (Definition.Copy r) = ⊤
NeedsRoom full (Definition.AckOn address id) = ⊤
NeedsRoom full (Definition.Cancel found) = full ≡ false
NeedsRoom full (Definition.Answer status extras) = ⊤
NeedsRoom full (Definition.InDialog address id) = full ≡ false
NeedsRoom full (Definition.Challenge q) = full ≡ false
NeedsRoom full (Definition.Deny q id) = full ≡ false
NeedsRoom full (Definition.Send q id targets) = full ≡ false
NeedsRoom full (Definition.Register q id registered) = full ≡ false

-- What was decided about a new request with a key is some verdict on it, for which there is room, and which answers finally if it answers at once.
pub record IsServed (server : Server) (state : ProxyState) (a : Arrival) (key : TransactionKey) (decided : Verdict) : Type 0 where
  pub verdict : Definition.Verdict
  pub is : Is server state.bindings a.now (Definition.found_for_cancel state key a.from) verdict decided
  pub space : NeedsRoom (Definition.is_full state) verdict
  pub final : AnswersFinally verdict
