-- Who gets a 200 that is made here (RFC 3261 9.2, 10.3 step 8).
use Rattle.std.specs.Prelude.{◌≡◌, ℕ, Bool, false, List, [], ◌∷◌, codes, Some, None, Ok}
use Rattle.sip_message_fields.specs.declared.field.Field.{Field}
use Rattle.sip_message_form.specs.declared.message.Start.TheVariants.{Request}
use Rattle.sip_message_form.specs.declared.message.Message.{Message}
use Rattle.sip_message_form.specs.Text.{text_of}
use Rattle.sip_transaction_table.specs.declared.key.TransactionKey.{TransactionKey}
use Rattle.sip_transaction_table.specs.Key.{key_of}
use Rattle.sip_header.specs.declared.core_fields.CoreFields.{CoreFields}
use Rattle.sip_header.specs.CoreFields.{core_of}
use Rattle.sip_validate.specs.Refusal.{refusal_of}
use Rattle.sip_location.specs.declared.binding.Binding.{Binding}
use Rattle.sip_location.specs.Registering.{to_aor}
use Rattle.sip_event.specs.declared.packet.Packet.{Packet}
use Rattle.sip_model.specs.state.declared.server.Server.{Server}
use Rattle.sip_model.specs.state.declared.open_request.OpenRequest.{OpenRequest}
use Rattle.sip_model.specs.state.declared.proxy_state.ProxyState.{ProxyState}
use Rattle.sip_model.specs.state.Arrival.{Arrival}
use Rattle.sip_model.specs.context_model.Sending.{made_answer, answer_packet}
use Rattle.sip_model.specs.verdict_model.Verdict.{Bound, registration_by, found_for_cancel}
use Rattle.sip_model.specs.Access.{rule_of, decision_on}
use Rattle.model_laws.specs.Lists.{ListsInOrder}

-- an answer that is made here to a message that a datagram brought, as it is first sent
abbrev pub answer_here : Server → Arrival → Message → ℕ → List Field → Packet
answer_here server a m status extras = answer_packet false a.number m a.from (text_of (made_answer server a.number m a.from status extras))

-- A message is a REGISTER that passes every check, and that a rule lets through; it binds, and all that is sent is the 200 that
-- lists the live bindings of its address.
pub record IsRegistered (server : Server) (state : ProxyState) (a : Arrival) (m : Message) (short : Bool) (packets : List Packet) : Type 0 where
  pub uri : List ℕ
  pub version : List ℕ
  pub core : CoreFields
  pub id : ℕ
  pub rows : List Binding
  pub fields : List Field
  pub is_register : m.start ≡ Request (codes "REGISTER") uri version
  pub is_valid : refusal_of server.config.own m short ≡ None
  pub core_is : core_of m ≡ Ok core
  pub is_let_through : rule_of (decision_on server state a.now m (codes "REGISTER") core) ≡ Some id
  pub binds : registration_by server state.bindings a.now m core ≡ Bound rows
  pub lists : ListsInOrder a.now (to_aor core) rows fields
  pub is_alone : packets ≡ answer_here server a m 200 fields ∷ []

-- A message is a CANCEL that names an open request, and the 200 to it is sent first (RFC 3261 9.2, 16.10).
pub record IsCancelling (server : Server) (state : ProxyState) (a : Arrival) (m : Message) (packets : List Packet) : Type 0 where
  pub uri : List ℕ
  pub version : List ℕ
  pub key : TransactionKey
  pub request : OpenRequest
  pub others : List Packet
  pub is_cancel : m.start ≡ Request (codes "CANCEL") uri version
  pub key_is : key_of m ≡ Some key
  pub names : found_for_cancel state key a.from ≡ Some request
  pub is_first : packets ≡ answer_here server a m 200 [] ∷ others
