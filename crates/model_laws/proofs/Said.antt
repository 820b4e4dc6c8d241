-- Steps that are taken for a datagram whose message is known.
use Rattle.std.proofs.Common.{◌≡◌, ℕ, Bool, true, false, ◌&&◌, ◌||◌, if◌then◌else◌, List, [], find, codes, Option, Some, None, refl, sym, ap, ◌∙◌, true≢false, bytes_eq}
use Rattle.std.specs.Option.{option_map_or}
use Rattle.sip_message_fields.specs.declared.field_name.FieldName.TheVariants as Name
use Rattle.sip_message_fields.specs.Values.{values_of}
use Rattle.sip_message_form.specs.declared.message.Message.{Message}
use Rattle.sip_message_form.specs.declared.message.Start.{Start}
use Rattle.sip_message_form.specs.declared.message.Start.TheVariants.{Request, Status}
use Rattle.sip_message.specs.Reading.{reading_of}
use Rattle.sip_uri.specs.declared.addr.Addr.{Addr}
use Rattle.sip_transaction_table.specs.declared.key.TransactionKey.{TransactionKey}
use Rattle.sip_transaction_table.specs.Key.{key_of}
use Rattle.sip_event.specs.declared.packet.Packet.{Packet}
use Rattle.sip_event.specs.declared.event.Event.TheVariants.{Datagram}
use Rattle.sip_model.specs.state.declared.server.Server.{Server}
use Rattle.sip_model.specs.state.declared.branch.Branch.{Branch}
use Rattle.sip_model.specs.state.declared.open_request.OpenRequest.{OpenRequest}
use Rattle.sip_model.specs.state.declared.proxy_state.ProxyState.{ProxyState}
use Rattle.sip_model.specs.state.Arrival.{Arrival}
use Rattle.sip_model.specs.state.State.{has_key}
use Rattle.sip_model.specs.verdict_model.Verdict.{Verdict, Drop, Respond, Copy, response_verdict, is_many, responding, message_in, message_verdict, by_start, by_key}
use Rattle.sip_model.specs.verdict_model.Verdict.{by_open, ack_verdict, verdict_in}
use Rattle.sip_model.specs.context_model.Branches.{is_accepted}
use Rattle.sip_model.specs.steps_model.Step.{Act, Given, arrival_of}
use Rattle.sip_model.specs.Access.{IsSaidAt, ComesNow, sent_for, sent_at_once}
use Rattle.model_laws.proofs.Refused.{bytes_in, NothingComes}

-- the message that is said, and another one where none is
abbrev pub said_or : Message → Option (Message × Bool) → Message
said_or m said = option_map_or (λ x. x.0) said m

-- a start line's status, and 0 of a request
abbrev pub status_or : Start → ℕ
status_or (Status status reason) = status
status_or (Request method uri version) = 0

-- whether it is a request's
abbrev pub is_request : Start → Bool
is_request (Status status reason) = false
is_request (Request method uri version) = true

-- two that were found are one
pub found_same : {X : Type 0} (x y : X) → Some x ≡ Some y → x ≡ y
found_same {X} x y e = ap (λ (o : Option X). option_map_or (λ z. z) o x) e

module _ (server : Server) (state : ProxyState) (at word : ℕ) (from : Addr) (bytes : List ℕ) (m : Message) (says : message_in (reading_of bytes) ≡ Some (m, false)) where
  -- the step
  abbrev comes : Act
  comes = Given (Datagram at word from bytes)

  -- what it says is that message
  pub said_is : (a : Arrival) (others : List ℕ) (n : Message) (short : Bool) → IsSaidAt state comes a others n short → n ≡ m
  said_is a others n short said =
      let same : others ≡ bytes = sym (ap bytes_in said.is_act) in
      ap (said_or m) (sym said.says ∙ ap (λ (bs : List ℕ). message_in (reading_of bs)) same ∙ says)

  -- a request is no response, so nothing comes for an open request
  pub request_comes_for_none : is_request m.start ≡ true → NothingComes server state comes
  request_comes_for_none e r b status response now =
      true≢false (sym e ∙ ap (λ (n : Message). is_request n.start) (sym (said_is now.a now.bytes response false now.is_said)) ∙ ap is_request now.is_response)

  -- a response comes for the branch that it names alone, with its own status
  pub response_comes_for : (r one : OpenRequest) (b branch : Branch) (status : ℕ) (response : Message) → responding server state.requests m.fields ≡ Some (one, branch)
      → ComesNow server state comes r b status response → (b ≡ branch) × (status ≡ status_or m.start)
  response_comes_for r one b branch status response is now =
      let same : response ≡ m = said_is now.a now.bytes response false now.is_said in (
        ap (λ (x : OpenRequest × Branch). x.1) (found_same (r, b) (one, branch) (sym now.is_for ∙ ap (λ (n : Message). responding server state.requests n.fields) same
            ∙ is)),
        ap status_or (sym now.is_response) ∙ ap (λ (n : Message). status_or n.start) same,
      )

  -- what the datagram gets, by the verdict on it
  pub gets : sent_for server state comes ≡ sent_at_once server (arrival_of state at word from) m (message_verdict server state (arrival_of state at word from) m false)
  gets =
      ap (λ (said : Option (Message × Bool)).
      option_map_or (λ x. sent_at_once server (arrival_of state at word from) x.0 x.1) (verdict_in server state (arrival_of state at word from) said) []) says

  -- a response gets nothing
  pub response_gets_nothing : is_request m.start ≡ false → sent_for server state comes ≡ []
  response_gets_nothing e = gets ∙ by_line m.start e where
    by_found : (status : ℕ) (found : Option (OpenRequest × Branch)) → sent_at_once server (arrival_of state at word from) m (response_verdict m.fields status found) ≡ []
    by_found status None = refl
    by_found status (Some x) = by_test (x.1.is_cancel || is_many (values_of Name.Via m.fields)) where
      by_test : (t : Bool) → sent_at_once server (arrival_of state at word from) m (if t then Respond x.0 x.1 status else Drop) ≡ []
      by_test true = refl
      by_test false = refl

    by_line : (start : Start) → is_request start ≡ false → sent_at_once server (arrival_of state at word from) m
        (by_start server state (arrival_of state at word from) m false start) ≡ []
    by_line (Status status reason) is = by_found status (responding server state.requests m.fields)
    by_line (Request method uri version) is = absurd (true≢false is)

  -- a request whose key is open gets nothing, if it is no ACK
  pub open_gets_nothing : (method uri version : List ℕ) (key : TransactionKey) (r : OpenRequest) → m.start ≡ Request method uri version
      → bytes_eq method (codes "ACK") ≡ false
      → key_of m ≡ Some key
      → find (has_key key) state.requests ≡ Some r → sent_for server state comes ≡ []
  open_gets_nothing method uri version key r start no_ack key_is is_open = gets ∙ ap sends is_copy where
    a : Arrival
    a = arrival_of state at word from

    sends : Verdict → List Packet
    sends verdict = sent_at_once server a m verdict

    is_copy : message_verdict server state a m false ≡ Copy r
    is_copy =
        ap (by_start server state a m false) start
        ∙ ap (by_key server state a m false method) key_is
        ∙ ap (by_open server state a m false method key) is_open
        ∙ ap (λ (t : Bool). if t && is_accepted r then ack_verdict server state a.now m false else Copy r) no_ack
