-- What a verdict on a datagram, or a change of an open request, does: what is sent, what is recorded, and the state after it (RFC 3261 16, 17).
use Rattle.std.specs.Prelude.{ℕ, ◌+◌, Bool, true, false, ◌==◌, if◌then◌else◌, List, [], ◌∷◌, ◌++◌, length, map, codes, Option, Some, None}
use Rattle.std.specs.Option.{option_map_or}
use Rattle.std.specs.List.{flat_map}
use Rattle.std.specs.Str.{bytes_eq}
use Rattle.sip_digest.specs.NonceText.{nonce_text}
use Rattle.sip_digest.specs.Nonces.{issued}
use Rattle.sip_uri.specs.declared.aor.Aor.{Aor}
use Rattle.sip_uri.specs.Uri as UriText
use Rattle.sip_message_fields.specs.declared.field.Field.{Field}
use Rattle.sip_message_fields.specs.declared.field_name.FieldName.{FieldName}
use Rattle.sip_message_fields.specs.declared.field_name.FieldName.TheVariants as Name
use Rattle.sip_message_form.specs.declared.message.Start.{Start}
use Rattle.sip_message_form.specs.declared.message.Start.TheVariants.{Request, Status}
use Rattle.sip_message_form.specs.declared.message.Message.{Message}
use Rattle.sip_message_form.specs.Text.{text_of}
use Rattle.sip_uri.specs.declared.addr.Addr.{Addr}
use Rattle.sip_edit_response.specs.Challenges.{challenge_fields}
use Rattle.model_verdict.specs.auth.Offer.{offers_sha256}
use Rattle.sip_edit_response.specs.Contacts.{contact_value}
use Rattle.sip_edit_response.specs.Extras.{denial_warning}
use Rattle.model_verdict.specs.edit.Onward.{onward_uri}
use Rattle.sip_policy.specs.declared.operation.Operation.{Operation}
use Rattle.sip_location.specs.declared.binding.Binding.{Binding}
use Rattle.sip_location.specs.Binding.{live, seconds_left}
use Rattle.sip_targets.specs.declared.target.Target.{Target}
use Rattle.sip_targets.specs.declared.targets.Targets.{Targets}
use Rattle.sip_targets.specs.Targets.{target_list}
use Rattle.sip_dialog.specs.declared.dialog.DialogId.{DialogId}
use Rattle.sip_dialog.specs.declared.dialog.Dialog.{Dialog}
use Rattle.sip_audit.specs.declared.record.Record.{Record}
use Rattle.sip_audit.specs.declared.record.AuditOperation.TheVariants as RecordedAs
use Rattle.sip_audit.specs.declared.record.AuditOperation.{AuditOperation}
use Rattle.sip_audit.specs.declared.record.AuditOutcome.{AuditOutcome}
use Rattle.sip_event.specs.declared.packet.Packet.{Packet}
use Rattle.model_verdict.specs.state.declared.server.Server.{Server}
use Rattle.model_verdict.specs.auth.Proof.{proven, is_stale, used}
use Rattle.model_verdict.specs.state.declared.open_request.OpenRequest.{OpenRequest}
use Rattle.model_verdict.specs.state.declared.proxy_state.ProxyState.{ProxyState}
use Rattle.model_verdict.specs.state.State.{has_left, with_one_more}
use Rattle.model_verdict.specs.context_model.Sending.{made_answer, answer_packet, answer_to, onward_as, branch_packets}
use Rattle.model_verdict.specs.state.declared.open_request.Upward.{Upward}
use Rattle.model_verdict.specs.state.Dialogs.{after_request, after_answers, after_leaving}
use Rattle.model_verdict.specs.context_model.Branches.{Change, responded, cancelled, acknowledged}
use Rattle.model_verdict.specs.context_model.Opening.{closing, branches_from, dialog_branch, forking, trying, opening}
use Rattle.model_verdict.specs.context_model.Retransmission.{answers_again, acked_again}
use Rattle.model_verdict.specs.state.Arrival.{Arrival}
use Rattle.model_verdict.specs.declared.question.Question.{Question}
use Rattle.model_verdict.specs.Verdict.{Registered, Bound, Refused, Verdict, Drop, Respond, Copy, AckOn, Cancel, Answer, InDialog}
use Rattle.model_verdict.specs.Verdict.{Challenge, Deny, Send, Register, is_full, minute_on, verdict_of}

-- what is sent for the first time, in its order; what goes again; what is recorded; and the state after it
pub record Effect : Type 0 where
  pub originals : List Packet
  pub again : List Packet
  pub records : List Record
  pub state : ProxyState

-- ---- an open request changes

-- an open request in place of the one of its number, unless it stays open no longer
abbrev pub replaced : OpenRequest → List OpenRequest → List OpenRequest
replaced r [] = []
replaced r (x ∷ xs) = if x.number == r.number then (if has_left r then xs else r ∷ xs) else x ∷ replaced r xs

-- what goes to the caller, as packets
abbrev pub upward_packets : OpenRequest → List Upward → List Packet
upward_packets r upward = map (λ (u : Upward). answer_to false r (text_of u.message)) upward

-- the dialogs after what went to the caller, and after the request left if it did
abbrev pub dialogs_after : Server → ℕ → Change → List Dialog → List Dialog
dialogs_after server now change dialogs = after_leaving now change.request (after_answers server now change.request change.upward dialogs)

-- ACKs go first, then what goes to the caller, then requests and CANCELs (this project's profile)
abbrev pub change_packets : Change → List Packet
change_packets change = change.acks ++ upward_packets change.request change.upward ++ change.cancels

-- the effect of a change of an open request
abbrev pub changed : Server → ℕ → ProxyState → Change → Effect
changed server now state change =
    record {
      originals = change_packets change;
      again = [];
      records = [];
      state = record state {
        moment = now;
        requests = replaced change.request state.requests;
        dialogs = dialogs_after server now change state.dialogs;
      };
    }

-- nothing is sent and nothing changes
abbrev pub nothing : ProxyState → Effect
nothing state = record { originals = []; again = []; records = []; state = state }

-- ---- a request is answered at once

-- the open requests with one more, while there is room
abbrev pub opened : OpenRequest → ProxyState → List OpenRequest
opened r state = if is_full state then state.requests else with_one_more r state.requests

-- A request gets its final answer at once, and is open from now on, while there is room (RFC 3261 8.2.6, 17.2)
abbrev pub replied : Server → Arrival → Message → ℕ → List Field → List Record → ProxyState → Effect
replied server a m status extras records state =
    let text : List ℕ = text_of (made_answer server a.number m a.from status extras) in
    record {
      originals = answer_packet false a.number m a.from text ∷ [];
      again = [];
      records = records;
      state = record state { requests = opened (closing a m status text) state };
    }

-- ---- what is recorded of a request that policy was asked about

-- the method of a request; a response has none
abbrev pub method_of : Start → List ℕ
method_of (Request method uri version) = method
method_of (Status code reason) = []

-- an operation as it is recorded
abbrev pub recorded : Operation → AuditOperation
recorded Operation.Register = RecordedAs.Register
recorded Operation.List = RecordedAs.List
recorded (Operation.Send method) = RecordedAs.Send

-- what is recorded of a request: when and as which datagram it came, its method, who proved to ask, for which address of record, the
-- minute of a rule with a window, and what became of it
abbrev pub record_of : Server → Arrival → Message → Question → AuditOutcome → Record
record_of server a m q outcome =
    record {
      at = a.now;
      number = a.number;
      method = method_of m.start;
      who = proven q.proof;
      target = q.target;
      operation = recorded q.operation;
      minute = minute_on server q;
      outcome = outcome;
    }

-- ---- challenge and denial

-- a registrar challenges as a user agent server, everyone else is challenged as by a proxy (RFC 3261 22.2, 22.3)
abbrev pub is_registration : Operation → Bool
is_registration Operation.Register = true
is_registration Operation.List = true
is_registration (Operation.Send method) = false

-- 401 by a registrar, 407 by a proxy (RFC 3261 21.4.2, 21.4.8)
abbrev pub challenge_status : Operation → ℕ
challenge_status operation = if is_registration operation then 401 else 407

-- the field of a challenge: WWW-Authenticate by a registrar, Proxy-Authenticate by a proxy (RFC 3261 20.44, 20.27)
abbrev pub challenge_name : Operation → FieldName
challenge_name operation = if is_registration operation then Name.WwwAuthenticate else Name.ProxyAuthenticate

-- the challenge, by each algorithm by which some user may answer, with the nonce of the datagram's word (RFC 3261 22.1, RFC 8760 2.3)
abbrev pub challenges_to : Server → Arrival → Question → List Field
challenges_to server a q =
    challenge_fields (challenge_name q.operation) (offers_sha256 server.config.users) server.config.realm (nonce_text a.word) (is_stale q.proof)

-- the state after policy was asked: a right credential is used up, whatever was decided
abbrev pub asked : Arrival → Question → ProxyState → ProxyState
asked a q state = record state { nonces = used state.nonces a.now q.proof }

-- a challenge issues its nonce
abbrev pub issuing : Arrival → ProxyState → ProxyState
issuing a state = record state { nonces = issued state.nonces a.word a.now }

-- a challenge answers the request, and its nonce is issued (RFC 3261 22.1)
abbrev pub challenged : Server → Arrival → Message → Question → ProxyState → Effect
challenged server a m q state =
    replied server a m (challenge_status q.operation) (challenges_to server a q)
    (record_of server a m q (AuditOutcome.Challenge (challenge_status q.operation)) ∷ []) (issuing a (asked a q state))

-- a denial names its rule (this project's profile)
abbrev pub denied : Server → Arrival → Message → Question → ℕ → ProxyState → Effect
denied server a m q id state = replied server a m 403 (denial_warning server.config.own id ∷ [])
    (record_of server a m q (AuditOutcome.Deny id) ∷ []) (asked a q state)

-- an answer to a request that was let through
abbrev pub answered_by_rule : Server → Arrival → Message → Question → ℕ → ℕ → List Field → ProxyState → Effect
answered_by_rule server a m q id status extras state = replied server a m status extras
    (record_of server a m q (AuditOutcome.Answer id status) ∷ []) (asked a q state)

-- ---- registration

-- the Contact fields that list bindings (RFC 3261 10.3 step 8)
abbrev pub contact_field : ℕ → Binding → Field
contact_field now b = record { name = Name.Contact; value = contact_value (UriText.text_of b.uri) (seconds_left now b) }

-- one field for each live binding of an address of record, in their order
abbrev pub contact_fields : ℕ → Aor → List Binding → List Field
contact_fields now aor rows = map (contact_field now) (live aor now rows)

-- a REGISTER that was let through: the bindings are made, and the 200 lists those that live
abbrev pub registering : Server → Arrival → Message → Question → ℕ → Registered → ProxyState → Effect
registering server a m q id (Bound rows) state = answered_by_rule server a m q id 200 (contact_fields a.now q.target rows)
    (record state { bindings = rows })
registering server a m q id (Refused status extras) state = answered_by_rule server a m q id status extras state

-- ---- a request is sent on

-- the 100 goes first, then the answer where none of the branches can be sent to, then the requests to the branches that can (this project's profile)
abbrev pub opening_packets : Server → ℕ → OpenRequest → List Packet
opening_packets server now r = upward_packets r (trying server r) ++ change_packets (opening server now r)
    ++ flat_map (branch_packets server false r) r.branches

-- a request is sent to its branches, and is open from now on (RFC 3261 16.6)
abbrev pub forked : Server → ℕ → OpenRequest → List Record → ProxyState → Effect
forked server now r records state =
    record {
      originals = opening_packets server now r;
      again = [];
      records = records;
      state = record state {
        requests = opened (opening server now r).request state;
        dialogs = dialogs_after server now (opening server now r) state.dialogs;
      };
    }

-- a request that was let through gets one branch for each of its targets, in their order
abbrev pub sent_to : Server → Arrival → Message → Question → ℕ → List Target → ProxyState → Effect
sent_to server a m q id targets state =
    forked server a.now (forking a m (branches_from a.now 1 targets)) (record_of server a m q (AuditOutcome.Sent id (length targets)) ∷ [])
    (asked a q state)

-- a request that was let through goes to its targets; without a user 404, without a live binding 480 (RFC 3261 16.5)
abbrev pub sending : Server → Arrival → Message → Question → ℕ → Targets → ProxyState → Effect
sending server a m q id Targets.NotFound state = answered_by_rule server a m q id 404 [] state
sending server a m q id Targets.Unavailable state = answered_by_rule server a m q id 480 [] state
sending server a m q id (Targets.Bindings targets) state = sent_to server a m q id (target_list (Targets.Bindings targets)) state
sending server a m q id (Targets.Hop uri address) state = sent_to server a m q id (target_list (Targets.Hop uri address)) state

-- ---- in a dialog

-- the dialog of a request that is sent on is renewed
abbrev pub renewing : Server → Arrival → Message → DialogId → ProxyState → ProxyState
renewing server a m id state = record state { dialogs = after_request server a.now id m state.dialogs }

-- a request of a dialog gets one branch, and renews its dialog
abbrev pub sent_within : Server → Arrival → Message → Addr → DialogId → ProxyState → Effect
sent_within server a m address id state =
    forked server a.now (forking a m (dialog_branch server a.now m address ∷ [])) [] (renewing server a m id state)

-- an ACK goes on without a transaction (RFC 3261 16.11, 17)
abbrev pub ack_packet : Server → Arrival → Message → Addr → Packet
ack_packet server a m address =
    record {
      to = address;
      bytes = text_of (onward_as server a.number m a.from (onward_uri server.config.own m) 1);
      ticket = record { datagram = a.number; branch = 0 };
      again = false;
    }

-- an ACK of a dialog goes to the address that the dialog holds, and renews the dialog
abbrev pub ack_sent : Server → Arrival → Message → Addr → DialogId → ProxyState → Effect
ack_sent server a m address id state = record {
  originals = ack_packet server a m address ∷ [];
  again = [];
  records = [];
  state = renewing server a m id state;
}

-- ---- copies and CANCEL

-- a copy of an open request gets its last answer again; an ACK acknowledges that
abbrev pub copied : Arrival → Message → OpenRequest → ProxyState → Effect
copied a m r state =
    record {
      originals = [];
      again = if bytes_eq (method_of m.start) (codes "ACK") then [] else answers_again r r.answer;
      records = [];
      state = if bytes_eq (method_of m.start) (codes "ACK") then record state { requests = replaced (acknowledged a.now r) state.requests }
          else state;
    }

-- one effect behind another: what the second sends goes behind what the first does
abbrev pub behind : Effect → Effect → Effect
behind first second = record {
  originals = first.originals ++ second.originals;
  again = first.again ++ second.again;
  records = first.records ++ second.records;
  state = second.state;
}

-- a CANCEL: 481 without the request that it names; else 200, and that request is cancelled (RFC 3261 9.2, 16.10)
abbrev pub cancelling : Server → Arrival → Message → Option OpenRequest → ProxyState → Effect
cancelling server a m None state = replied server a m 481 [] [] state
cancelling server a m (Some r) state =
    let answer : Effect = replied server a m 200 [] [] state in
    behind answer (changed server a.now answer.state (cancelled server a.now r))

-- ---- a datagram

-- the moment is the datagram's, and its number is taken
abbrev pub counted : Arrival → ProxyState → ProxyState
counted a state = record state { moment = a.now; next = a.number + 1 }

-- what a verdict on a message does
abbrev pub effect_of : Server → Arrival → Message → Verdict → ProxyState → Effect
effect_of server a m Drop state = nothing state
effect_of server a m (Respond r b status) state = record (changed server a.now state (responded server a.now r b status m))
    { again = acked_again server r b status }
effect_of server a m (Copy r) state = copied a m r state
effect_of server a m (AckOn address id) state = ack_sent server a m address id state
effect_of server a m (Cancel found) state = cancelling server a m found state
effect_of server a m (Answer status extras) state = replied server a m status extras [] state
effect_of server a m (InDialog address id) state = sent_within server a m address id state
effect_of server a m (Challenge q) state = challenged server a m q state
effect_of server a m (Deny q id) state = denied server a m q id state
effect_of server a m (Send q id targets) state = sending server a m q id targets state
effect_of server a m (Register q id outcome) state = registering server a m q id outcome state

-- what the bytes of a datagram do
abbrev pub datagram_effect : Server → ProxyState → Arrival → List ℕ → Effect
datagram_effect server state a bytes =
    option_map_or (λ x. effect_of server a x.0 x.1 (counted a state)) (verdict_of server state a bytes) (nothing (counted a state))
