-- What is to be done with a datagram: the first case that applies (RFC 3261 16.3 to 16.5, 10.3, 17.1.3, 17.2.3).
use Rattle.std.specs.Prelude.{ℕ, Bool, true, false, not, ◌&&◌, ◌||◌, ◌==◌, nat_le, is_some, if◌then◌else◌, List, [], ◌∷◌, length, find}
use Rattle.std.specs.Prelude.{codes, Option, Some, None, option_map, Result, Ok, Err}
use Rattle.std.specs.Option.{option_and_then}
use Rattle.std.specs.Result.{result_ok}
use Rattle.std.specs.Str.{bytes_eq}
use Rattle.sip_uri.specs.declared.uri.Uri.{Uri}
use Rattle.sip_uri.specs.declared.aor.Aor.{Aor}
use Rattle.sip_message_fields.specs.declared.field.Field.{Field}
use Rattle.sip_message_fields.specs.declared.field_name.FieldName.TheVariants as Name
use Rattle.sip_message_form.specs.declared.message.Start.{Start}
use Rattle.sip_message_form.specs.declared.message.Start.TheVariants.{Request, Status}
use Rattle.sip_message_form.specs.declared.message.Message.{Message}
use Rattle.sip_message_form.specs.declared.error.ReadError.{ReadError}
use Rattle.sip_message_form.specs.declared.error.ReadError.TheVariants as Refusal
use Rattle.sip_message.specs.Reading.{reading_of}
use Rattle.sip_transaction_table.specs.declared.key.TransactionKey.{TransactionKey}
use Rattle.sip_header.specs.declared.core_fields.CoreFields.{CoreFields}
use Rattle.sip_header.specs.declared.via.Via.{Via}
use Rattle.sip_transaction_table.specs.Key.{key_of}
use Rattle.sip_message_fields.specs.Values.{values_of, first_value}
use Rattle.sip_header.specs.Via.{via_of}
use Rattle.sip_route.specs.Own.{own_branch}
use Rattle.sip_header.specs.CoreFields.{core_of, cseq_in}
use Rattle.sip_route.specs.Way.{way_of, request_uri_of, next_uri}
use Rattle.sip_digest.specs.declared.nonces.Nonce.{Nonce}
use Rattle.sip_uri.specs.declared.addr.Addr.{Addr}
use Rattle.sip_hops.specs.HostAddress.{address_of}
use Rattle.model_context.specs.edit_response.Extras.{unsupported_field, min_expires}
use Rattle.sip_policy.specs.declared.decision.Decision.{Decision}
use Rattle.sip_policy.specs.Operation.{operation_of}
use Rattle.sip_policy.specs.User.{is_users_address, is_own_domain}
use Rattle.sip_policy.specs.Window.{minute_of}
use Rattle.sip_policy.specs.Decision.{decision_of, recorded_minute}
use Rattle.sip_location.specs.declared.binding.Binding.{Binding}
use Rattle.sip_location.specs.declared.error.LocationError.{LocationError}
use Rattle.sip_location.specs.declared.error.LocationError.TheVariants.{NoMemory, BadStar, TooBrief, OldCSeq, TooMany}
use Rattle.sip_location.specs.Binding.{contacts_of}
use Rattle.sip_location.specs.Registration.{registered}
use Rattle.sip_targets.specs.declared.targets.Targets.{Targets}
use Rattle.sip_targets.specs.Targets.{targets_for}
use Rattle.sip_validate.specs.Refusal.{refusal_of, is_bad_request}
use Rattle.sip_dialog.specs.declared.dialog.DialogId.{DialogId}
use Rattle.sip_dialog.specs.DialogId.{id_of}
use Rattle.sip_dialog.specs.Dialogs.{is_in_dialog}
use Rattle.model_context.specs.state.declared.server.Server.{Server}
use Rattle.sip_auth.specs.Proof.{proof_of, proven}
use Rattle.model_verdict.specs.declared.question.Question.{Question}
use Rattle.sip_location.specs.Registering.{aor_or_nobody, to_aor, registration_of}
use Rattle.model_context.specs.state.declared.proxy_state.ProxyState.{ProxyState}
use Rattle.model_context.specs.state.declared.open_request.OpenRequest.{OpenRequest}
use Rattle.model_context.specs.state.declared.branch.Branch.{Branch}
use Rattle.model_context.specs.state.Arrival.{Arrival}
use Rattle.model_context.specs.state.State.{has_key}
use Rattle.model_context.specs.Branches.{is_accepted}
use Rattle.model_context.specs.FoundBranch.{found_branch}
use Rattle.model_context.specs.state.Dialogs.{dialog_of}

-- What a REGISTER that was let through comes to: the bindings after it, or the status that refuses it, with its extra fields.
pub data Registered : Type 0 where
  Bound : List Binding → Registered
  Refused : ℕ → List Field → Registered

-- What is to be done with a datagram: nothing; a response to a branch is taken; a request belongs to an open one; an ACK is sent on
-- in a dialog; a CANCEL, with the request that it
-- names; an answer with a status and further fields; a request is sent on in a dialog; a challenge; a denial by a rule; a request is
-- sent to its targets, or a REGISTER taken, by a rule.
pub data Verdict : Type 0 where
  Drop : Verdict
  Respond : OpenRequest → Branch → ℕ → Verdict
  Copy : OpenRequest → Verdict
  AckOn : Addr → DialogId → Verdict
  Cancel : Option OpenRequest → Verdict
  Answer : ℕ → List Field → Verdict
  InDialog : Addr → DialogId → Verdict
  Challenge : Question → Verdict
  Deny : Question → ℕ → Verdict
  Send : Question → ℕ → Targets → Verdict
  Register : Question → ℕ → Registered → Verdict

-- ---- a response

-- whether there are two or more
abbrev pub is_many : List (List ℕ) → Bool
is_many [] = false
is_many (value ∷ []) = false
is_many (value ∷ next ∷ others) = true

-- A response to a branch's request has a second Via, which it goes to; one to a CANCEL of this server need not.
abbrev pub response_verdict : List Field → ℕ → Option (OpenRequest × Branch) → Verdict
response_verdict fields status None = Drop
response_verdict fields status (Some x) = if x.1.is_cancel || is_many (values_of Name.Via fields) then Respond x.0 x.1 status else Drop

-- the branch of this server's Via on top of a response (RFC 3261 16.7 step 1, 18.1.2)
abbrev pub top_branch : Server → List Field → Option (List ℕ)
top_branch server fields = option_and_then (own_branch server.config.own) (option_and_then via_of (first_value Name.Via fields))

-- the branch that a response is to: the one of its top Via, which is this server's, and of the method in its only CSeq (RFC 3261
-- 16.7 step 1, 17.1.3, 20.16)
abbrev pub responding : Server → List OpenRequest → List Field → Option (OpenRequest × Branch)
responding server requests fields =
    option_and_then (λ text. option_and_then (λ cseq. found_branch server text cseq.method requests) (result_ok (cseq_in fields)))
    (top_branch server fields)

-- ---- within a dialog

-- the address where a request is to go next
abbrev pub next_address : Server → Message → Option Addr
next_address server m = option_and_then (address_of server.config.addresses) (next_uri (way_of server.config.own m))

-- a verdict on a request that names a dialog and has an address, if the dialog is known and holds that; else another verdict
abbrev pub within_at : ProxyState → ℕ → (Addr → DialogId → Verdict) → Verdict → Option DialogId → Option Addr → Verdict
within_at state now on none None _ = none
within_at state now on none (Some id) None = none
within_at state now on none (Some id) (Some address) = if is_in_dialog now state.dialogs id address then on address id else none

-- a request of a known dialog, if that holds the address where it is to go next
abbrev pub within : Server → ProxyState → ℕ → Message → (Addr → DialogId → Verdict) → Verdict → Verdict
within server state now m on none = within_at state now on none (dialog_of m) (next_address server m)

-- an ACK that no server transaction takes is sent on in a dialog, or dropped: nothing answers an ACK (RFC 3261 16.11, 17.2.1)
abbrev pub ack_verdict : Server → ProxyState → ℕ → Message → Bool → Verdict
ack_verdict server state now m short = if is_some (refusal_of server.config.own m short) then Drop else within server state now m AckOn Drop

-- ---- CANCEL

-- whether 1,024 requests are open (this project's profile)
abbrev pub is_full : ProxyState → Bool
is_full state = nat_le 1024 (length state.requests)

-- an open request that a CANCEL may name: neither ACK nor CANCEL, with the same branch and sent-by (RFC 3261 9.2)
abbrev pub is_cancelled_by : TransactionKey → OpenRequest → Bool
is_cancelled_by key r =
    bytes_eq r.key.branch key.branch && bytes_eq r.key.host key.host && r.key.port == key.port && not
    (bytes_eq r.key.method (codes "CANCEL")) && not (bytes_eq r.key.method (codes "ACK"))

-- the earliest such request, if the CANCEL comes from its IP address (this project's profile)
abbrev pub found_for_cancel : ProxyState → TransactionKey → Addr → Option OpenRequest
found_for_cancel state key from = option_and_then (λ r. if bytes_eq r.request.source.ip from.ip then Some r else None) (find (is_cancelled_by key)
    state.requests)

-- a CANCEL: 400 if it is a bad request, 503 without room, else by what it names (RFC 3261 9.2, 16.10)
abbrev pub cancel_verdict : Server → ProxyState → Arrival → Message → Bool → TransactionKey → Verdict
cancel_verdict server state a m short key =
    if is_bad_request server.config.own m short then Answer 400 []
    else if is_full state then Answer 503 []
    else Cancel (found_for_cancel state key a.from)

-- ---- policy

-- whether a request has a Contact
abbrev pub has_contact : List Field → Bool
has_contact fields = is_some (first_value Name.Contact fields)

-- whether a method is REGISTER
abbrev pub is_register : List ℕ → Bool
is_register method = bytes_eq method (codes "REGISTER")

-- the address of record that a request is for: To's of a REGISTER, the Request-URI's of any other
abbrev pub target_of : Server → Message → List ℕ → CoreFields → Aor
target_of server m method core = if is_register method then to_aor core else aor_or_nobody (request_uri_of server.config.own m)

-- what policy is asked about a request
abbrev pub question_of : Server → List Nonce → ℕ → Message → List ℕ → CoreFields → Question
question_of server nonces now m method core =
    record {
      proof = proof_of server.config.realm server.config.users nonces now m;
      operation = operation_of method (has_contact m.fields);
      target = target_of server m method core;
      minute = minute_of now server.config.offset;
    }

-- what policy decides
abbrev pub answer_of : Server → Question → Decision
answer_of server q = decision_of server.config.rules server.config.users server.config.own.domains (proven q.proof) q.operation q.target q.minute

-- the minute that is recorded of it, where the rule that decides has a window
abbrev pub minute_on : Server → Question → Option ℕ
minute_on server q = recorded_minute server.config.rules server.config.users server.config.own.domains (proven q.proof) q.operation q.target q.minute

-- ---- registration

-- the status that refuses a registration (RFC 3261 10.3; 500 and 503 by step 7 and this project's profile)
abbrev pub refused_by : LocationError → Registered
refused_by NoMemory = Refused 503 []
refused_by BadStar = Refused 400 []
refused_by TooBrief = Refused 423 (min_expires ∷ [])
refused_by OldCSeq = Refused 500 []
refused_by TooMany = Refused 503 []

-- what a registration comes to
abbrev pub registered_by : Result (List Binding) LocationError → Registered
registered_by (Ok rows) = Bound rows
registered_by (Err e) = refused_by e

-- whether the host of a URI is an own domain
abbrev pub is_own_uri : Server → Option Uri → Bool
is_own_uri server None = false
is_own_uri server (Some uri) = is_own_domain server.config.own.domains uri.host

-- What becomes of a REGISTER that was let through: 404 unless the Request-URI names an own domain and To a configured user of one,
-- else what the registrar does (RFC 3261 10.3)
abbrev pub registration_by : Server → List Binding → ℕ → Message → CoreFields → Registered
registration_by server rows now m core =
    if is_own_uri server (request_uri_of server.config.own m) && is_users_address server.config.users server.config.own.domains (to_aor core)
    then registered_by (registered rows (registration_of core m.fields) now)
    else Refused 404 []

-- ---- targets

-- the targets that a decision gives a request to a Request-URI, over some bindings (RFC 3261 16.5)
abbrev pub targets_by : Server → List Binding → ℕ → Aor → Decision → Option Uri → Targets
targets_by server rows now target decision uri =
    targets_for decision (is_users_address server.config.users server.config.own.domains target) uri (contacts_of rows now target)
    server.config.hops server.config.addresses

-- the targets of a request outside a dialog
abbrev pub request_targets : Server → List Binding → ℕ → Message → Question → Decision → Targets
request_targets server rows now m q decision = targets_by server rows now q.target decision (request_uri_of server.config.own m)

-- ---- a request outside a dialog

-- a request that was let through is registered or sent
abbrev pub let_through : Server → ProxyState → ℕ → Message → List ℕ → CoreFields → Question → ℕ → Decision → Verdict
let_through server state now m method core q id decision =
    if is_register method then Register q id (registration_by server state.bindings now m core)
    else Send q id (request_targets server state.bindings now m q decision)

-- what a decision makes of a request
abbrev pub decided : Server → ProxyState → ℕ → Message → List ℕ → CoreFields → Question → Decision → Verdict
decided server state now m method core q Decision.Challenge = Challenge q
decided server state now m method core q (Decision.Deny id) = Deny q id
decided server state now m method core q (Decision.Allow id) = let_through server state now m method core q id (Decision.Allow id)
decided server state now m method core q (Decision.Via id hop) = let_through server state now m method core q id (Decision.Via id hop)

-- what policy says of a request outside a dialog
abbrev pub policy_verdict : Server → ProxyState → ℕ → Message → List ℕ → CoreFields → Verdict
policy_verdict server state now m method core =
    let q : Question = question_of server state.nonces now m method core in
    decided server state now m method core q (answer_of server q)

-- ---- a request

-- whether a request is outside a dialog: its To has no tag, or it is a REGISTER, which belongs to none (RFC 3261 10.2, 12.2)
abbrev pub is_outside : List ℕ → CoreFields → Bool
is_outside method core = is_register method || not (is_some (id_of core))

-- with these core fields; every checked request has them
abbrev pub core_verdict : Server → ProxyState → ℕ → Message → List ℕ → Option CoreFields → Verdict
core_verdict server state now m method None = Drop
core_verdict server state now m method (Some core) =
    if is_outside method core then policy_verdict server state now m method core else within server state now m InDialog (Answer 481 [])

-- the extra fields of a status that refuses a request (RFC 3261 8.2.2.3)
abbrev pub refusal_fields : ℕ × List ℕ → List Field
refusal_fields refusal = if refusal.0 == 420 then unsupported_field refusal.1 ∷ [] else []

-- a refusal of the checks; else 503 without room (this project's profile); else the request is served
abbrev pub checked_verdict : Server → ProxyState → ℕ → Message → List ℕ → Option (ℕ × List ℕ) → Verdict
checked_verdict server state now m method (Some refusal) = Answer refusal.0 (refusal_fields refusal)
checked_verdict server state now m method None =
    if is_full state then Answer 503 [] else core_verdict server state now m method (result_ok (core_of m))

-- a request whose key isn't open
abbrev pub new_verdict : Server → ProxyState → Arrival → Message → Bool → List ℕ → TransactionKey → Verdict
new_verdict server state a m short method key =
    if bytes_eq method (codes "ACK") then ack_verdict server state a.now m short
    else if bytes_eq method (codes "CANCEL") then cancel_verdict server state a m short key
    else checked_verdict server state a.now m method (refusal_of server.config.own m short)

-- A request whose key is open belongs to that request, but for an ACK of a 2xx, which is an own transaction (RFC 3261 13.2.2.4, 17.2.3)
abbrev pub by_open : Server → ProxyState → Arrival → Message → Bool → List ℕ → TransactionKey → Option OpenRequest → Verdict
by_open server state a m short method key (Some r) =
    if bytes_eq method (codes "ACK") && is_accepted r then ack_verdict server state a.now m short else Copy r
by_open server state a m short method key None = new_verdict server state a m short method key

-- without a readable top Via whose branch has the magic cookie nothing is sent (RFC 3261 8.1.1.7, in this project's profile)
abbrev pub by_key : Server → ProxyState → Arrival → Message → Bool → List ℕ → Option TransactionKey → Verdict
by_key server state a m short method None = Drop
by_key server state a m short method (Some key) = by_open server state a m short method key (find (has_key key) state.requests)

-- ---- a datagram

-- a response with a short body is dropped (RFC 3261 18.3)
abbrev pub by_start : Server → ProxyState → Arrival → Message → Bool → Start → Verdict
by_start server state a m short (Status code reason) = if short then Drop
    else response_verdict m.fields code (responding server state.requests m.fields)
by_start server state a m short (Request method uri version) = by_key server state a m short method (key_of m)

-- the verdict on a message, of whose body fewer bytes may have come than its length says
abbrev pub message_verdict : Server → ProxyState → Arrival → Message → Bool → Verdict
message_verdict server state a m short = by_start server state a m short m.start

-- the message that bytes say, and whether its body is short; nothing else is a message
abbrev pub message_in : Result Message ReadError → Option (Message × Bool)
message_in (Ok m) = Some (m, false)
message_in (Err (Refusal.ShortBody m)) = Some (m, true)
message_in (Err Refusal.NoMemory) = None
message_in (Err Refusal.NotSip) = None
message_in (Err Refusal.BadField) = None
message_in (Err Refusal.TooLong) = None
message_in (Err Refusal.TooManyFields) = None

-- a message, with the verdict on it, if a datagram says one
abbrev pub verdict_in : Server → ProxyState → Arrival → Option (Message × Bool) → Option (Message × Verdict)
verdict_in server state a said = option_map (λ x. (x.0, message_verdict server state a x.0 x.1)) said

-- the message that the bytes of a datagram say, with the verdict on it; bytes that say none are dropped
abbrev pub verdict_of : Server → ProxyState → Arrival → List ℕ → Option (Message × Verdict)
verdict_of server state a bytes = verdict_in server state a (message_in (reading_of bytes))
