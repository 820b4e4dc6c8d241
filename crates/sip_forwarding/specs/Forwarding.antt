-- What is drafted of a request that is sent on (RFC 3261 16.6, 16.11, 16.12), and of an event of an open request, before anything is changed.
use Rattle.std.specs.Prelude.{◌≡◌, ◌≤◌, ℕ, List, [], ◌∷◌, Contains}
use Rattle.sip_message_form.specs.declared.message.Message.{Message}
use Rattle.sip_uri.specs.declared.addr.Addr.{Addr}
use Rattle.sip_hops.specs.declared.host_address.HostAddress.{HostAddress}
use Rattle.sip_transaction_table.specs.declared.key.TransactionKey.{TransactionKey}
use Rattle.sip_dialog.specs.declared.dialog.Dialog.{Dialog}
use Rattle.sip_event.specs.declared.packet.Packet.{Packet}
use Rattle.sip_targets.specs.declared.targets.Targets.{Targets}
use Rattle.sip_targets.specs.Targets.{target_list}
use Rattle.sip_dialog_updates.specs.state.Arrival.{Arrival}
use Rattle.sip_dialog_updates.specs.state.declared.server.Server.{Server}
use Rattle.sip_dialog_updates.specs.state.declared.open_request.OpenRequest.{OpenRequest}
use Rattle.sip_forwarding.specs.context_model.Branches.{Change}
use Rattle.sip_forwarding.specs.context_model.Opening.{branches_from, dialog_branch, forking}
use Rattle.model_steps.specs.Effect.{change_packets, dialogs_after}
use Rattle.model_steps.specs.Step.{originals, retransmissions}
use Rattle.sip_dialog_updates.specs.declared.dialog_update.DialogUpdate.{DialogUpdate}
use Rattle.sip_dialog_updates.specs.DialogUpdates.{after_updates, beginnings}
use Rattle.sip_context.specs.declared.input.Input.{Input}
use Rattle.sip_context.specs.declared.input.Input.TheVariants.{Response, BranchDeadline, SideDeadline, SendFault, Cancel, Ack, BranchAgain}
use Rattle.sip_context.specs.declared.input.Input.TheVariants.{AnswerAgain}
use Rattle.sip_context.specs.Inputs.{Outcome}
use Rattle.model_transactions.specs.Fits.{Fits}
use Rattle.model_transactions.specs.Matching.{AreBranched}
use Rattle.model_transactions.specs.Near.{IsWithin}
use Rattle.sip_forwarding.specs.declared.changing.Drafted.{Drafted}

-- ---- requests

-- a request that came and is sent to its targets, before anything was sent
abbrev pub call_to : Arrival → Message → Targets → OpenRequest
call_to a m targets = forking a m (branches_from a.now 1 (target_list targets))

-- one that is sent on in its dialog
abbrev pub call_within : Server → Arrival → Message → Addr → OpenRequest
call_within server a m address = forking a m (dialog_branch server a.now m address ∷ [])

-- A request can be opened: it has the number and the key with which it came, its parts fit their transactions, its moments are near
-- the one at which it came, and its branches are targets with numbers of their own and CANCELs behind them.
pub record IsOpenable (a : Arrival) (under : TransactionKey) (r : OpenRequest) : Type 0 where
  pub number : r.number ≡ a.number
  pub key : r.key ≡ under
  pub fits : Fits r
  pub within : IsWithin a.now r
  pub branched : AreBranched r.branches

-- ---- what is sent, and what dialogs learn

-- Of some packets these are sent for the first time, and those go again.
pub record AreSent (first copies packets : List Packet) : Type 0 where
  pub originals : originals packets ≡ first
  pub again : retransmissions packets ≡ copies

-- At a moment updates make this of the dialogs of a server that has this table of addresses.
abbrev pub Teach : List HostAddress → Server → ℕ → List DialogUpdate → (List Dialog → List Dialog) → Type 0
Teach rows server now updates edit = server.config.addresses ≡ rows → (dialogs : List Dialog) → after_updates now updates dialogs ≡ edit dialogs

-- ---- events

-- the change of an open request that an input makes, without what goes again
abbrev pub change_of : Outcome → Change
change_of o = record { request = o.request; acks = o.acks; upward = o.upward; cancels = o.cancels }

-- the branch to which a response came is one of the request
abbrev pub IsInputTo : OpenRequest → Input → Type 0
IsInputTo r (Response branch status response) = Contains r.branches branch.now
IsInputTo r (BranchDeadline branch) = Unit {0}
IsInputTo r SideDeadline = Unit {0}
IsInputTo r (SendFault branch) = Unit {0}
IsInputTo r Cancel = Unit {0}
IsInputTo r Ack = Unit {0}
IsInputTo r (BranchAgain branch) = Unit {0}
IsInputTo r AnswerAgain = Unit {0}

-- What is drafted of an outcome: its change is sent for the first time, its copies again; the dialogs learn of the change, and at
-- most one of them begins.
pub record IsDraft (rows : List HostAddress) (server : Server) (now : ℕ) (o : Outcome) (d : Drafted) : Type 0 where
  pub sent : AreSent (change_packets (change_of o)) o.copies d.packets
  pub updates : Teach rows server now d.updates (dialogs_after server now (change_of o))
  pub few : beginnings d.updates ≤ 1
