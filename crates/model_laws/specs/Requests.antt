-- Where open requests come from.
use Rattle.std.specs.Prelude.{◌≡◌, ◌≤◌, ℕ, Bool, false, ◌&&◌, List, codes, Contains, Some}
use Rattle.std.specs.List.{AllByRecursion}
use Rattle.std.specs.Str.{bytes_eq}
use Rattle.sip_message_form.specs.declared.message.Message.{Message}
use Rattle.sip_uri.specs.declared.addr.Addr.{Addr}
use Rattle.sip_transaction_table.specs.Key.{key_of}
use Rattle.sip_edit.specs.ReceivedRequest.{response_address}
use Rattle.sip_event.specs.declared.packet.Packet.{Packet}
use Rattle.sip_model.specs.state.declared.branch.Branch.{Branch}
use Rattle.sip_model.specs.state.declared.open_request.LastAnswer.{LastAnswer}
use Rattle.sip_model.specs.state.declared.open_request.OpenRequest.{OpenRequest}
use Rattle.sip_model.specs.state.State.{is_invite, is_success}
use Rattle.sip_model.specs.state.Arrival.{Arrival}
use Rattle.sip_model.specs.steps_model.Effect.{method_of}
use Rattle.sip_model.specs.Access.{IsSaidAt}
use Rattle.sip_model.specs.Run.{Link}
use Rattle.sip_model.specs.Lives.{sent_first}

-- A message came in a datagram of a history.
pub record IsBrought (history : List Link) (a : Arrival) (m : Message) : Type 0 where
  pub link : Link
  pub bytes : List ℕ
  pub short : Bool
  pub is_there : Contains history link
  pub is_said : IsSaidAt link.before link.act a bytes m short

-- A text was sent to the caller of a request that came from an address in the datagram of a number: to the address of its responses,
-- with its ticket (RFC 3261 18.2.2).
pub record WentToCaller (history : List Link) (number : ℕ) (m : Message) (from : Addr) (text : List ℕ) : Type 0 where
  pub packet : Packet
  pub is_there : Contains (sent_first history) packet
  pub is_to_caller : packet.to ≡ response_address m from
  pub is_text : packet.bytes ≡ text
  pub is_of_datagram : packet.ticket.datagram ≡ number
  pub is_of_no_branch : packet.ticket.branch ≡ 0

-- An open request came: a datagram of the history brought it, which is no ACK and has that key, from that source, at that moment and
-- as the one of that number; its branches
-- have numbers from 1 on; and the answer that is its last was sent to its caller, but for a 2xx to an INVITE, whose text isn't kept (RFC 3261 17.2).
pub record HasCome (history : List Link) (r : OpenRequest) : Type 0 where
  pub a : Arrival
  pub is_brought : IsBrought history a r.request.message
  pub is_no_ack : bytes_eq (method_of r.request.message.start) (codes "ACK") ≡ false
  pub is_key : key_of r.request.message ≡ Some r.key
  pub is_number : r.number ≡ a.number
  pub is_source : r.request.source ≡ a.from
  pub is_arrival : r.arrived_at ≡ a.now
  pub are_numbered : AllByRecursion (λ (b : Branch). 1 ≤ b.number) r.branches
  pub has_gone : (last : LastAnswer) → r.answer ≡ Some last → (is_invite r && is_success last.status) ≡ false
      → WentToCaller history r.number r.request.message r.request.source last.text
