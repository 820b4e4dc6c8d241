-- When what was read of a message is what the verdict on it needs of it.
use Rattle.std.specs.Prelude.{◌≡◌, ℕ, Bool, List, find, Some}
use Rattle.sip_edit.specs.ReceivedRequest.{top_via}
use Rattle.sip_message_fields.specs.declared.field_name.FieldName.TheVariants as Name
use Rattle.sip_message_fields.specs.Values.{values_of}
use Rattle.sip_message_form.specs.declared.message.Start.TheVariants as Start
use Rattle.sip_message_form.specs.declared.message.Message.{Message}
use Rattle.sip_header.specs.declared.via.Via.{Via}
use Rattle.sip_transaction_table.specs.declared.key.TransactionKey.{TransactionKey}
use Rattle.sip_transaction_table.specs.Key.{key_of}
use Rattle.model_verdict.specs.state.declared.server.Server.{Server}
use Rattle.model_verdict.specs.state.declared.proxy_state.ProxyState.{ProxyState}
use Rattle.model_verdict.specs.state.declared.open_request.OpenRequest.{OpenRequest}
use Rattle.model_verdict.specs.state.Arrival.{Arrival}
use Rattle.model_verdict.specs.state.State.{has_key}
use Rattle.model_verdict.specs.context_model.FoundBranch.{found_branch}
use Rattle.sip_route.specs.declared.own.Own.{Own}
use Rattle.model_verdict.specs.Verdict.{Drop, is_many, responding, response_verdict, by_open, message_verdict}
use Rattle.sip_verdict.specs.declared.incoming.Incoming.{Incoming}
use Rattle.sip_verdict.specs.declared.incoming.Incoming.TheVariants.{Dropped, Response, Request}

-- A message is dropped by a server of this host and port, in every state.
abbrev pub IsDropped : Own → Message → Bool → Type 0
IsDropped own m short = (server : Server) (state : ProxyState) (a : Arrival) → server.config.own ≡ own → message_verdict server state a m short ≡ Drop

-- A message is a whole response with this status, to the branch with this text and method, if there is one (RFC 3261 16.7 step 1, 17.1.3, 18.3).
pub record IsResponse (own : Own) (m : Message) (short : Bool) (status : ℕ) (branch method : List ℕ) (has_more_vias : Bool) : Type 0 where
  pub reason : List ℕ
  pub start_is : m.start ≡ Start.Status status reason
  pub vias_are : is_many (values_of Name.Via m.fields) ≡ has_more_vias
  pub responds : (server : Server) (requests : List OpenRequest) → server.config.own ≡ own → responding server requests m.fields
      ≡ found_branch server branch method requests
  pub verdict_is : (server : Server) (state : ProxyState) (a : Arrival) → server.config.own ≡ own
      → message_verdict server state a m short ≡ response_verdict m.fields status (found_branch server branch method state.requests)

-- A message is a request of this method with this Via on top and this key, and belongs to the first open request with that key, if
-- there is one (RFC 3261 17.2.3).
pub record IsRequest (m : Message) (short : Bool) (method : List ℕ) (via : Via) (key : TransactionKey) : Type 0 where
  pub uri : List ℕ
  pub version : List ℕ
  pub start_is : m.start ≡ Start.Request method uri version
  pub via_is : top_via m ≡ Some via
  pub key_is : key_of m ≡ Some key
  pub verdict_is : (server : Server) (state : ProxyState) (a : Arrival)
      → message_verdict server state a m short ≡ by_open server state a m short method key (find (has_key key) state.requests)

-- What was read of a message, of whose body fewer bytes may have come than its length says, is what the verdict of a server of this
-- host and port needs of it.
abbrev pub Is : Own → Message → Bool → Incoming → Type 0
Is own m short Dropped = IsDropped own m short
Is own m short (Response status branch method has_more_vias) = IsResponse own m short status branch.now method.now has_more_vias
Is own m short (Request method via key) = IsRequest m short method.now via key
