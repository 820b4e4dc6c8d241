-- The law of whole runs: who was sent what, which bindings changed, and which rule denied.
use Rattle.std.specs.Prelude.{◌≡◌, ◌⊎◌, ◌<◌, ◌≤◌, ℕ, max, ◌==◌, ◌||◌, Bool, true, false, not, if◌then◌else◌, List, [], ◌∷◌, ◌++◌, filter}
use Rattle.std.specs.Prelude.{find, codes, Contains, Option, Some, None, is_some, Ok}
use Rattle.std.specs.List.{AllByRecursion, list_any, flat_map}
use Rattle.std.specs.Option.{option_map_or}
use Rattle.std.specs.Str.{bytes_eq}
use Rattle.sip_message_fields.specs.declared.field.Field.{Field}
use Rattle.sip_message_form.specs.declared.message.Start.TheVariants.{Request, Status}
use Rattle.sip_message_form.specs.declared.message.Message.{Message}
use Rattle.sip_message_fields.specs.declared.field_name.FieldName.TheVariants as Name
use Rattle.sip_message_fields.specs.Values.{first_value}
use Rattle.sip_message.specs.Reading.{reading_of}
use Rattle.sip_message_form.specs.Text.{text_of}
use Rattle.sip_transaction_table.specs.declared.key.TransactionKey.{TransactionKey}
use Rattle.sip_header.specs.declared.core_fields.CoreFields.{CoreFields}
use Rattle.sip_transaction_table.specs.Key.{key_of}
use Rattle.sip_header.specs.CoreFields.{core_of}
use Rattle.sip_uri.specs.declared.addr.Addr.{Addr}
use Rattle.sip_edit_response.specs.Extras.{denial_warning}
use Rattle.sip_edit.specs.Onward.{onward_uri}
use Rattle.sip_edit.specs.OwnRequests.{cancel_of}
use Rattle.sip_edit.specs.OwnVia.{without_top_via}
use Rattle.sip_policy.specs.declared.decision.Decision.{Decision}
use Rattle.sip_policy.specs.Operation.{operation_of}
use Rattle.sip_location.specs.declared.binding.Binding.{Binding}
use Rattle.sip_location.specs.Sameness.{SameBindings}
use Rattle.sip_targets.specs.declared.target.Target.{Target}
use Rattle.sip_targets.specs.declared.targets.Targets.{Targets}
use Rattle.sip_targets.specs.Targets.{target_list}
use Rattle.sip_validate.specs.Refusal.{refusal_of}
use Rattle.sip_best.specs.declared.final_answer.Final.{Final}
use Rattle.sip_best.specs.Best.{is_challenge_status, is_challenge_field, taking_along, best_of}
use Rattle.sip_dialog.specs.declared.dialog.DialogId.{DialogId}
use Rattle.sip_dialog.specs.Dialogs.{IsInDialog}
use Rattle.sip_audit.specs.declared.record.Record.{Record}
use Rattle.sip_event.specs.declared.packet.Packet.{Packet}
use Rattle.sip_event.specs.declared.packet.Ticket.{Ticket}
use Rattle.sip_event.specs.declared.event.StepOut.{StepOut}
use Rattle.sip_event.specs.declared.event.Event.TheVariants.{Datagram, Time, Fault}
use Rattle.model_steps.specs.state.declared.server.Server.{Server}
use Rattle.sip_location.specs.Registering.{to_aor}
use Rattle.model_steps.specs.state.declared.proxy_state.ProxyState.{ProxyState}
use Rattle.model_steps.specs.state.declared.open_request.OpenRequest.{OpenRequest}
use Rattle.model_steps.specs.state.declared.branch.Branch.{Branch}
use Rattle.model_steps.specs.state.declared.branch.Phase.{Phase}
use Rattle.model_steps.specs.state.declared.branch.Phase.TheVariants.{Unheard, Heard, Cancelled, Done, Ended}
use Rattle.model_steps.specs.state.State.{is_invite, has_key, is_success, is_failure, is_decline, is_provisional, is_final, is_answering, phase_deadline, side_deadline}
use Rattle.model_steps.specs.state.Dialogs.{dialog_of}
use Rattle.model_steps.specs.context_model.Sending.{made_answer, answer_packet, answer_to, to_branch, ack_packets, branch_packets}
use Rattle.model_steps.specs.context_model.Sending.{onward_as, request_of}
use Rattle.model_steps.specs.context_model.Branches.{is_same_branch, is_ready, is_unheard, is_accepted, final_of, upward_of}
use Rattle.model_steps.specs.state.Arrival.{Arrival}
use Rattle.model_steps.specs.verdict_model.Verdict.{Bound, Refused, Verdict, Drop, Respond, Copy, AckOn, Cancel, Answer, InDialog}
use Rattle.model_steps.specs.verdict_model.Verdict.{Challenge, Deny, Send, Register, has_contact, is_full, is_register, is_outside}
use Rattle.model_steps.specs.verdict_model.Verdict.{question_of, answer_of, request_targets, registration_by, next_address, responding}
use Rattle.model_steps.specs.verdict_model.Verdict.{found_for_cancel, message_in, verdict_of}
use Rattle.model_steps.specs.context_model.Opening.{arriving, branches_from, dialog_branch}
use Rattle.model_steps.specs.context_model.Retransmission.{IsRetransmission, IsResent, answers_again, acked_again, answer_due, branch_due}
use Rattle.model_steps.specs.Effect.{contact_fields, challenge_status, challenges_to, method_of, ack_packet}
use Rattle.model_steps.specs.Step.{Act, Given, Passing, NoneBefore, NoneAgainBefore, originals, retransmissions, arrival_of}
use Rattle.sip_model.specs.Run.{Link, event_moment, under}
use Rattle.sip_model.specs.Bindings.{Arrived, bindings_after}
use Rattle.sip_model.specs.Lives.{sent_first, first_sending}
use Rattle.sip_model.specs.Histories.{records_at}

-- ---- a valid new request outside a dialog

-- A datagram says a request that is valid, new and outside a dialog: it is neither ACK nor CANCEL, its key isn't open, it passes
-- every check, there is room for it, and its To has no
-- tag or it is a REGISTER.
pub record IsNewRequest (server : Server) (state : ProxyState) (bytes : List ℕ) (m : Message) (method : List ℕ) (core : CoreFields) : Type 0 where
  pub uri : List ℕ
  pub version : List ℕ
  pub key : TransactionKey
  pub says : message_in (reading_of bytes) ≡ Some (m, false)
  pub is_request : m.start ≡ Request method uri version
  pub key_is : key_of m ≡ Some key
  pub is_new : find (has_key key) state.requests ≡ None
  pub is_no_ack : bytes_eq method (codes "ACK") ≡ false
  pub is_no_cancel : bytes_eq method (codes "CANCEL") ≡ false
  pub is_valid : refusal_of server.config.own m false ≡ None
  pub has_room : is_full state ≡ false
  pub core_is : core_of m ≡ Ok core
  pub is_outside_dialog : is_outside method core ≡ true

-- what policy decides about it, for its proven user or for nobody
abbrev pub decision_on : Server → ProxyState → ℕ → Message → List ℕ → CoreFields → Decision
decision_on server state now m method core = answer_of server (question_of server state.nonces now m method core)

-- where the first matching rule lets it go, over some bindings
abbrev pub targets_given : Server → List Binding → ProxyState → ℕ → Message → List ℕ → CoreFields → Targets
targets_given server rows state now m method core =
    request_targets server rows now m (question_of server state.nonces now m method core) (decision_on server state now m method core)

-- the targets that the first matching rule gives it over some bindings: none at a challenge, a denial, a 404 or a 480, and none of a REGISTER
abbrev pub targets_on : Server → List Binding → ProxyState → ℕ → Message → List ℕ → CoreFields → List Target
targets_on server rows state now m method core =
    if is_register method then []
    else target_list (targets_given server rows state now m method core)

-- the request to each target that has an address, in the order of the targets
abbrev pub requests_to : Server → Arrival → Message → List Target → List Packet
requests_to server a m targets = flat_map (branch_packets server false (arriving a m)) (branches_from a.now 1 targets)

-- the packets of a step that are branches' requests, sent for the first time
abbrev pub branch_originals : List Packet → List Packet
branch_originals packets = filter (λ (p : Packet). not (p.ticket.branch == 0)) (originals packets)

-- the rule that lets a request through
abbrev pub rule_of : Decision → Option ℕ
rule_of (Decision.Allow id) = Some id
rule_of (Decision.Via id hop) = Some id
rule_of (Decision.Deny id) = None
rule_of Decision.Challenge = None

-- a datagram says a REGISTER that is valid and new, and that a rule lets through
pub record IsAllowedRegister (server : Server) (state : ProxyState) (a : Arrival) (bytes : List ℕ) (r : Arrived) : Type 0 where
  pub m : Message
  pub method : List ℕ
  pub core : CoreFields
  pub id : ℕ
  pub is_new : IsNewRequest server state bytes m method core
  pub registers : is_register method ≡ true
  pub is_let_through : rule_of (decision_on server state a.now m method core) ≡ Some id
  pub is_it : r ≡ record { config = server.config; at = a.now; request = m }

-- the one answer of a request that is answered at once
abbrev pub answer_alone : Server → Arrival → Message → ℕ → List Field → List Packet
answer_alone server a m status extras = answer_packet false a.number m a.from (text_of (made_answer server a.number m a.from status extras)) ∷ []

-- What becomes of it, over the bindings that its history gives: it was sent to exactly its targets; a REGISTER that was let through
-- and made bindings got the 200 that lists those that
-- live then, and one that the registrar refuses its status; without a user it got 404, without a live binding 480; a request that
-- was challenged got the challenge alone, and one that
-- was denied the 403 whose Warning names the rule.
pub record IsServed (server : Server) (rows : List Binding) (state : ProxyState) (a : Arrival) (m : Message) (method : List ℕ)
    (core : CoreFields) (out : StepOut) : Type 0 where
  pub reaches : branch_originals out.packets ≡ requests_to server a m (targets_on server rows state a.now m method core)
  pub lists : (id : ℕ) (after : List Binding) → is_register method ≡ true → rule_of (decision_on server state a.now m method core) ≡ Some id
      → registration_by server rows a.now m core ≡ Bound after → originals out.packets
      ≡ answer_alone server a m 200 (contact_fields a.now (to_aor core) after)
  pub refuses : (id status : ℕ) (extras : List Field) → is_register method ≡ true → rule_of (decision_on server state a.now m method core) ≡ Some id
      → registration_by server rows a.now m core ≡ Refused status extras → originals out.packets ≡ answer_alone server a m status extras
  pub finds_nobody : (id : ℕ) → is_register method ≡ false → rule_of (decision_on server state a.now m method core) ≡ Some id
      → targets_given server rows state a.now m method core ≡ Targets.NotFound → originals out.packets ≡ answer_alone server a m 404 []
  pub finds_no_binding : (id : ℕ) → is_register method ≡ false → rule_of (decision_on server state a.now m method core) ≡ Some id
      → targets_given server rows state a.now m method core ≡ Targets.Unavailable → originals out.packets ≡ answer_alone server a m 480 []
  pub challenges : decision_on server state a.now m method core ≡ Decision.Challenge
      → originals out.packets
      ≡ answer_alone server a m (challenge_status (operation_of method (has_contact m.fields)))
      (challenges_to server a (question_of server state.nonces a.now m method core))
  pub denies : (id : ℕ) → decision_on server state a.now m method core ≡ Decision.Deny id → originals out.packets
      ≡ answer_alone server a m 403 (denial_warning server.config.own id ∷ [])

-- the same of a step: where it is taken for such a request
abbrev pub Serves : Server → List Binding → ProxyState → Act → StepOut → Type 0
Serves server rows state (Given (Datagram at word from bytes)) out =
    (m : Message) (method : List ℕ) (core : CoreFields) → IsNewRequest server state bytes m method core
    → IsServed server rows state (arrival_of state at word from) m method core out
Serves server rows state (Given (Time at)) out = Unit {0}
Serves server rows state (Given (Fault at ticket)) out = Unit {0}
Serves server rows state (Passing at) out = Unit {0}

-- ---- what else is sent

-- a step is taken for a datagram that says a message, of whose body fewer bytes may have come than its length says
pub record IsSaidAt (state : ProxyState) (act : Act) (a : Arrival) (bytes : List ℕ) (m : Message) (short : Bool) : Type 0 where
  pub at : ℕ
  pub word : ℕ
  pub from : Addr
  pub is_act : act ≡ Given (Datagram at word from bytes)
  pub is_arrival : a ≡ arrival_of state at word from
  pub says : message_in (reading_of bytes) ≡ Some (m, short)

-- A response came in a datagram of a history, for a branch to a target of the request of a number, which was open then: its top Via
-- is the one that this server put on that branch's
-- request, and its one CSeq has the request's method (RFC 3261 17.1.3, 20.16). Nobody looks at the address that it came from.
pub record CameFor (server : Server) (history : List Link) (number status : ℕ) (response : Message) : Type 0 where
  pub link : Link
  pub a : Arrival
  pub bytes : List ℕ
  pub reason : List ℕ
  pub request : OpenRequest
  pub branch : Branch
  pub is_there : Contains history link
  pub is_said : IsSaidAt link.before link.act a bytes response false
  pub is_response : response.start ≡ Status status reason
  pub is_for : responding server link.before.requests response.fields ≡ Some (request, branch)
  pub is_number : request.number ≡ number
  pub is_target : branch.is_cancel ≡ false

-- a challenge of a 401 or 407 that came for the same request (RFC 3261 16.7 step 7)
pub record IsTakenAlong (server : Server) (history : List Link) (number : ℕ) (field : Field) : Type 0 where
  pub status : ℕ
  pub response : Message
  pub came : CameFor server history number status response
  pub is_challenging : is_challenge_status status ≡ true
  pub is_challenge : is_challenge_field field ≡ true
  pub is_there : Contains response.fields field

-- A request is answered here in a step: it is open, or the step's datagram brings it, new and no ACK. One that is answered at once
-- is open in its own step.
pub data IsOpen (state : ProxyState) (act : Act) : ℕ → Message → Addr → Type 0 where
  Before : (r : OpenRequest) → Contains state.requests r → IsOpen state act r.number r.request.message r.request.source
  Brought : (a : Arrival) (bytes : List ℕ) (m : Message) (short : Bool) (key : TransactionKey) → IsSaidAt state act a bytes m short → key_of m ≡ Some key
      → find (has_key key) state.requests ≡ None → bytes_eq (method_of m.start) (codes "ACK") ≡ false → IsOpen state act a.number m a.from

-- the step denies this request, by the rule that these fields name
pub record IsDenied (server : Server) (state : ProxyState) (act : Act) (number : ℕ) (m : Message) (extras : List Field) : Type 0 where
  pub a : Arrival
  pub bytes : List ℕ
  pub method : List ℕ
  pub core : CoreFields
  pub id : ℕ
  pub is_said : IsSaidAt state act a bytes m false
  pub is_number : a.number ≡ number
  pub is_new : IsNewRequest server state bytes m method core
  pub denial : decision_on server state a.now m method core ≡ Decision.Deny id
  pub names_rule : extras ≡ denial_warning server.config.own id ∷ []

-- A step is taken for a request of a known dialog, or an ACK of one, that passes every check; neither REGISTER nor CANCEL. It is to
-- go to an address that the dialog holds.
pub record IsWithin (server : Server) (state : ProxyState) (act : Act) (a : Arrival) (m : Message) (address : Addr) : Type 0 where
  pub bytes : List ℕ
  pub method : List ℕ
  pub uri : List ℕ
  pub version : List ℕ
  pub id : DialogId
  pub is_said : IsSaidAt state act a bytes m false
  pub is_request : m.start ≡ Request method uri version
  pub is_no_register : is_register method ≡ false
  pub is_no_cancel : bytes_eq method (codes "CANCEL") ≡ false
  pub is_valid : refusal_of server.config.own m false ≡ None
  pub dialog_is : dialog_of m ≡ Some id
  pub address_is : next_address server m ≡ Some address
  pub is_known : IsInDialog a.now state.dialogs id address

-- a step's datagram says a provisional response for the branch of an open request (RFC 3261 9.1)
pub record IsHeardNow (server : Server) (state : ProxyState) (act : Act) (r : OpenRequest) (b : Branch) : Type 0 where
  pub a : Arrival
  pub bytes : List ℕ
  pub status : ℕ
  pub reason : List ℕ
  pub response : Message
  pub is_said : IsSaidAt state act a bytes response false
  pub is_response : response.start ≡ Status status reason
  pub is_before_final : is_provisional status ≡ true
  pub is_for : responding server state.requests response.fields ≡ Some (r, b)

-- a branch was heard: its phase before a step is Heard, or the step's datagram says a provisional response for it (RFC 3261 9.1)
abbrev pub WasHeard : Server → ProxyState → Act → OpenRequest → Branch → Type 0
WasHeard server state act r b = (is_ready b.phase ≡ true) ⊎ IsHeardNow server state act r b

-- What may be sent for the first time in a step:
-- the request to a target of a valid new request outside a dialog;
-- an answer that is made here to an open request, at its response address: a 403 only as a denial whose rule its Warning names;
-- an answer that came for a branch of an open request, to that request's response address, without its top Via; a 401 or 407 with
-- challenges that it takes along, each of which came in
-- a 401 or 407 for the same request, and an answer of any other status with none;
-- the ACK of such an answer of 300 to 699 to an INVITE, at the address of the branch;
-- the CANCEL of a branch to a target of an open INVITE, of no other request, at the address of the branch: before the step its phase
-- is Heard, or the step's datagram says a provisional
-- response for that very branch;
-- a request or an ACK of a known dialog, as it goes onward, to the address that the dialog holds.
pub data IsOwed (server : Server) (history : List Link) (state : ProxyState) (act : Act) (rows : List Binding) (p : Packet) : Type 0 where
  ToTarget : (a : Arrival) (bytes : List ℕ) (m : Message) (method : List ℕ) (core : CoreFields) → IsSaidAt state act a bytes m false
      → IsNewRequest server state bytes m method core
      → Contains (requests_to server a m (targets_on server rows state a.now m method core)) p → IsOwed server history state act rows p
  Answers : (number : ℕ) (m : Message) (from : Addr) (status : ℕ) (extras : List Field) → IsOpen state act number m from
      → ((status ≡ 403) → IsDenied server state act number m extras)
      → p ≡ answer_packet false number m from (text_of (made_answer server number m from status extras)) → IsOwed server history state act rows p
  Forwards : (r : OpenRequest) (status : ℕ) (response : Message) (challenges : List Field) → Contains state.requests r
      → CameFor server history r.number status response
      → AllByRecursion (IsTakenAlong server history r.number) challenges → (is_challenge_status status ≡ false → challenges ≡ [])
      → p ≡ answer_to false r (text_of (taking_along (without_top_via response) challenges)) → IsOwed server history state act rows p
  Acknowledges : (a : Arrival) (bytes : List ℕ) (r : OpenRequest) (b : Branch) (status : ℕ) (reason : List ℕ) (response : Message)
      → IsSaidAt state act a bytes response false
      → response.start ≡ Status status reason → responding server state.requests response.fields ≡ Some (r, b) → is_invite r ≡ true
      → is_failure status ≡ true
      → Contains (ack_packets server false r b (first_value Name.To response.fields)) p → IsOwed server history state act rows p
  Cancels : (r : OpenRequest) (b : Branch) → Contains state.requests r → Contains r.branches b → b.is_cancel ≡ false → is_invite r ≡ true
      → WasHeard server state act r b
      → Contains (to_branch r b 0 false (cancel_of (request_of server r b))) p → IsOwed server history state act rows p
  InKnownDialog : (a : Arrival) (m : Message) (address : Addr) → IsWithin server state act a m address → p.to ≡ address
      → p.bytes ≡ text_of (onward_as server a.number m a.from (onward_uri server.config.own m) 1) → p.ticket.datagram ≡ a.number
      → IsOwed server history state act rows p

-- ---- all that is sent for the first time

-- a branch has an address
abbrev pub has_address : Branch → Bool
has_address b = is_some b.address

-- What a request that is sent to its branches gets at once: an INVITE with an address among them a 100, and one without any address
-- a 500 (RFC 3261 16.2, 16.9).
abbrev pub answer_at_once : Server → Arrival → Message → List Branch → List Packet
answer_at_once server a m branches =
    if not (list_any has_address branches) then answer_alone server a m 500 []
    else if is_invite (arriving a m) then answer_alone server a m 100 []
    else []

-- that, and then its request to each branch that has an address, in the order of the branches
abbrev pub sent_to_branches : Server → Arrival → Message → List Branch → List Packet
sent_to_branches server a m branches = answer_at_once server a m branches ++ flat_map (branch_packets server false (arriving a m)) branches

-- All that a datagram is answered at once, or sent on as, by the verdict on it.
abbrev pub sent_at_once : Server → Arrival → Message → Verdict → List Packet
sent_at_once server a m Drop = []
sent_at_once server a m (Respond r b status) = []
sent_at_once server a m (Copy r) = []
sent_at_once server a m (AckOn address id) = ack_packet server a m address ∷ []
sent_at_once server a m (Cancel None) = answer_alone server a m 481 []
sent_at_once server a m (Cancel (Some r)) = answer_alone server a m 200 []
sent_at_once server a m (Answer status extras) = answer_alone server a m status extras
sent_at_once server a m (InDialog address id) = sent_to_branches server a m (dialog_branch server a.now m address ∷ [])
sent_at_once server a m (Challenge q) = answer_alone server a m (challenge_status q.operation) (challenges_to server a q)
sent_at_once server a m (Deny q id) = answer_alone server a m 403 (denial_warning server.config.own id ∷ [])
sent_at_once server a m (Send q id Targets.NotFound) = answer_alone server a m 404 []
sent_at_once server a m (Send q id Targets.Unavailable) = answer_alone server a m 480 []
sent_at_once server a m (Send q id (Targets.Bindings targets)) = sent_to_branches server a m
    (branches_from a.now 1 (target_list (Targets.Bindings targets)))
sent_at_once server a m (Send q id (Targets.Hop uri address)) = sent_to_branches server a m
    (branches_from a.now 1 (target_list (Targets.Hop uri address)))
sent_at_once server a m (Register q id (Bound rows)) = answer_alone server a m 200 (contact_fields a.now q.target rows)
sent_at_once server a m (Register q id (Refused status extras)) = answer_alone server a m status extras

-- the same of a step: nothing, unless it is taken for a datagram that says a message
abbrev pub sent_for : Server → ProxyState → Act → List Packet
sent_for server state (Given (Datagram at word from bytes)) =
    let a : Arrival = arrival_of state at word from in
    option_map_or (λ x. sent_at_once server a x.0 x.1) (verdict_of server state a bytes) []
sent_for server state (Given (Time at)) = []
sent_for server state (Given (Fault at ticket)) = []
sent_for server state (Passing at) = []

-- A response comes in a step, for a branch to a target of an open request.
pub record ComesNow (server : Server) (state : ProxyState) (act : Act) (r : OpenRequest) (b : Branch) (status : ℕ) (response : Message) : Type 0 where
  pub a : Arrival
  pub bytes : List ℕ
  pub reason : List ℕ
  pub is_said : IsSaidAt state act a bytes response false
  pub is_response : response.start ≡ Status status reason
  pub is_for : responding server state.requests response.fields ≡ Some (r, b)
  pub is_target : b.is_cancel ≡ false

-- The ACK that a step sends for an open request: of the first final response of a branch of an INVITE, of 300 to 699 (RFC 3261
-- 17.1.1.3); or none, where none is owed (`Owes`).
pub data IsAckNow (server : Server) (state : ProxyState) (act : Act) (r : OpenRequest) : List Packet → Type 0 where
  NoAck : IsAckNow server state act r []
  Acks : (b : Branch) (status : ℕ) (response : Message) → ComesNow server state act r b status response → is_invite r ≡ true
      → is_failure status ≡ true → is_final b.phase ≡ false
      → IsAckNow server state act r (ack_packets server false r b (first_value Name.To response.fields))

-- A branch of a request, in this phase, still takes a 2xx: it has no final response, or is an INVITE's and its first one was a 2xx
-- (RFC 6026 7.2).
abbrev pub TakesSuccess : OpenRequest → Phase → Type 0
TakesSuccess r (Unheard due) = Unit {0}
TakesSuccess r (Heard due) = Unit {0}
TakesSuccess r (Cancelled due) = Unit {0}
TakesSuccess r (Done due first) = (is_invite r ≡ true) × (is_success first ≡ true)
TakesSuccess r Ended = ⊥

-- A response of this status is sent on at once: of 101 to 199, while neither its branch nor its request has a final one; a 2xx,
-- while the request has no final answer, or is an INVITE whose
-- last one was a 2xx (RFC 3261 16.7 step 5, RFC 6026 7.1).
pub data IsPassedOn (r : OpenRequest) (b : Branch) (status : ℕ) : Type 0 where
  Early : is_provisional status ≡ true → ((status ≡ 100) → ⊥) → is_final b.phase ≡ false → is_answering r.side ≡ true → IsPassedOn r b status
  Accepting : is_success status ≡ true → TakesSuccess r b.phase → (is_answering r.side || is_accepted r) ≡ true → IsPassedOn r b status

-- What a branch to a target ends with in a step at a moment: the final response that comes for it; 408 where its deadline passes
-- without one, unless it is an INVITE that was heard; 487 where
-- it had been sent a CANCEL; 503 where it could not be sent to (RFC 3261 16.7 to 16.9).
pub data EndsNow (server : Server) (state : ProxyState) (act : Act) (at : ℕ) (r : OpenRequest) (b : Branch) : Final → Type 0 where
  ByResponse : (status : ℕ) (response : Message) → ComesNow server state act r b status response → is_provisional status ≡ false
      → EndsNow server state act at r b (final_of status response)
  BySilence : b.phase ≡ Unheard at → EndsNow server state act at r b (record { status = 408; message = None })
  ByLaterSilence : b.phase ≡ Heard at → is_invite r ≡ false → EndsNow server state act at r b (record { status = 408; message = None })
  ByCancel : b.phase ≡ Cancelled at → EndsNow server state act at r b (record { status = 487; message = None })
  ByFault : (when : ℕ) (ticket : Ticket) → act ≡ Given (Fault when ticket) → ticket.datagram ≡ r.number → ticket.branch ≡ b.number
      → is_unheard b.phase ≡ true
      → EndsNow server state act at r b (record { status = 503; message = None })

-- each other branch to a target has ended before
abbrev pub OthersEnded : OpenRequest → Branch → Type 0
OthersEnded r b = AllByRecursion (λ (x : Branch). x.is_cancel ≡ false → is_same_branch x b ≡ false → is_final x.phase ≡ true) r.branches

-- an answer that is made here after all branches ended, without fields: 408, 487 or 500
abbrev pub IsMadeLater : ℕ → Type 0
IsMadeLater status = (status ≡ 408) ⊎ ((status ≡ 487) ⊎ (status ≡ 500))

-- What goes to the caller of an open request in a step: nothing, where nothing is owed (`Owes`); a response that is sent on at once;
-- or, as its last branch ends and no final answer went before, the best of what its branches
-- ended with, in order of arrival (RFC 3261 16.7 steps 5 to 7).
pub data IsAnswerNow (server : Server) (state : ProxyState) (act : Act) (at : ℕ) (r : OpenRequest) : List Packet → Type 0 where
  NoAnswer : IsAnswerNow server state act at r []
  PassedOn : (b : Branch) (status : ℕ) (response : Message) → ComesNow server state act r b status response → IsPassedOn r b status
      → IsAnswerNow server state act at r (answer_to false r (text_of (without_top_via response)) ∷ [])
  Best : (b : Branch) (last best : Final) → Contains r.branches b → b.is_cancel ≡ false → is_final b.phase ≡ false
      → EndsNow server state act at r b last → OthersEnded r b → is_answering r.side ≡ true
      → best_of (r.finals ++ last ∷ []) ≡ Some best → (best.message ≡ None → IsMadeLater best.status)
      → IsAnswerNow server state act at r (answer_to false r (text_of (upward_of server r best).message) ∷ [])

-- a CANCEL of the caller's came in a history, for the request of a number (RFC 3261 9.2, 16.10)
pub record WasCancelled (server : Server) (history : List Link) (number : ℕ) : Type 0 where
  pub link : Link
  pub a : Arrival
  pub bytes : List ℕ
  pub m : Message
  pub short : Bool
  pub key : TransactionKey
  pub request : OpenRequest
  pub is_there : Contains history link
  pub is_said : IsSaidAt link.before link.act a bytes m short
  pub is_cancel : bytes_eq (method_of m.start) (codes "CANCEL") ≡ true
  pub key_is : key_of m ≡ Some key
  pub names_it : found_for_cancel link.before key a.from ≡ Some request
  pub is_number : request.number ≡ number

-- The branches of a request were given up in a history: its caller cancelled it, or a 2xx or 6xx came for it (RFC 3261 16.7 step 10, 16.10).
pub data WasGivenUp (server : Server) (history : List Link) (number : ℕ) : Type 0 where
  ByCaller : WasCancelled server history number → WasGivenUp server history number
  ByAnswer : (status : ℕ) (response : Message) → CameFor server history number status response → (is_success status || is_decline status)
      ≡ true → WasGivenUp server history number

-- A branch to a target of an INVITE is sent its CANCEL in a step: it was heard before, or is now, and none was sent before; and it
-- was given up, or Timer C passes (RFC 3261 9.1, 16.8).
pub record IsCancelledNow (server : Server) (history : List Link) (state : ProxyState) (act : Act) (at : ℕ) (r : OpenRequest) (b : Branch) :
    Type 0 where
  pub is_target : b.is_cancel ≡ false
  pub is_of_invite : is_invite r ≡ true
  pub was_heard : (is_ready b.phase ≡ true) ⊎ ((is_unheard b.phase ≡ true) × IsHeardNow server state act r b)
  pub was_given_up : WasGivenUp server history r.number ⊎ (b.phase ≡ Heard at)

-- the CANCELs that a step sends for an open request: those of some of its branches, each once; which of them it has to send, `Owes` says
pub record AreCancelsNow (server : Server) (history : List Link) (state : ProxyState) (act : Act) (at : ℕ) (r : OpenRequest)
    (packets : List Packet) : Type 0 where
  pub is_one : Branch → Bool
  pub are_all : packets ≡ flat_map (λ (b : Branch). to_branch r b 0 false (cancel_of (request_of server r b))) (filter is_one r.branches)
  pub each : AllByRecursion (λ (b : Branch). is_one b ≡ true → IsCancelledNow server history state act at r b) r.branches

-- What a step sends for a request that was open before it, if it does for one: an ACK, an answer, and CANCELs, in this order, or some
-- of them: those that are owed at least (`Owes`).
pub data IsForOpen (server : Server) (history : List Link) (state : ProxyState) (act : Act) (at : ℕ) : List Packet → Type 0 where
  ForNone : IsForOpen server history state act at []
  ForOne : (r : OpenRequest) (acks answers cancels : List Packet) → Contains state.requests r → IsAckNow server state act r acks
      → IsAnswerNow server state act at r answers
      → AreCancelsNow server history state act at r cancels → IsForOpen server history state act at (acks ++ answers ++ cancels)

-- All that a step sends for the first time: what its datagram is answered or sent on as, and then what is sent for a request that was open before.
pub record IsAllSent (server : Server) (history : List Link) (state : ProxyState) (act : Act) (at : ℕ) (packets : List Packet) : Type 0 where
  pub others : List Packet
  pub are_all : packets ≡ sent_for server state act ++ others
  pub are_owed : IsForOpen server history state act at others

-- ---- what goes again

-- All that goes again in a step at a moment: nothing, where nothing is owed (`Owes`); the last answer of the request that a datagram copies; the ACK of a branch
-- whose final response came before, and comes again; or what has
-- its moment then (RFC 3261 17).
pub data GoesAgain (server : Server) (state : ProxyState) (act : Act) (at : ℕ) : List Packet → Type 0 where
  Nothing : GoesAgain server state act at []
  ByCopy : (a : Arrival) (bytes : List ℕ) (m : Message) (short : Bool) (key : TransactionKey) (r : OpenRequest) → IsSaidAt state act a bytes m short
      → bytes_eq (method_of m.start) (codes "ACK") ≡ false
      → key_of m ≡ Some key → find (has_key key) state.requests ≡ Some r → GoesAgain server state act at (answers_again r r.answer)
  ByFinal : (a : Arrival) (bytes : List ℕ) (m : Message) (status : ℕ) (reason : List ℕ) (r : OpenRequest) (b : Branch)
      → IsSaidAt state act a bytes m false → m.start ≡ Status status reason
      → responding server state.requests m.fields ≡ Some (r, b) → GoesAgain server state act at (acked_again server r b status)
  ByTime : (r later : OpenRequest) (packets : List Packet) → Contains state.requests r → IsResent server at r packets later
      → GoesAgain server state act at packets

-- ---- what is owed

-- a step is taken for a datagram that says a message, on which this is the verdict
pub record IsTakenFor (server : Server) (link : Link) (m : Message) (v : Verdict) : Type 0 where
  pub at : ℕ
  pub word : ℕ
  pub from : Addr
  pub bytes : List ℕ
  pub is_act : link.act ≡ Given (Datagram at word from bytes)
  pub is_verdict : verdict_of server link.before (arrival_of link.before at word from) bytes ≡ Some (m, v)

-- a branch of an open request is open in a state in the phase in which it was
pub record StaysInPhase (after : ProxyState) (r : OpenRequest) (b : Branch) : Type 0 where
  pub request : OpenRequest
  pub branch : Branch
  pub is_open : Contains after.requests request
  pub is_number : request.number ≡ r.number
  pub is_there : Contains request.branches branch
  pub is_one : is_same_branch branch b ≡ true
  pub is_phase : branch.phase ≡ b.phase

-- the same, and what it sends goes again, if it does, at the same moment
pub record KeepsMoment (after : ProxyState) (r : OpenRequest) (b : Branch) : Type 0 where
  pub stays : StaysInPhase after r b
  pub goes_then : stays.branch.again ≡ b.again

-- an open request is open in a state with its answering side as it was, and its last answer goes again, if it does, at the same moment
pub record KeepsAnswer (after : ProxyState) (r : OpenRequest) : Type 0 where
  pub request : OpenRequest
  pub is_open : Contains after.requests request
  pub is_number : request.number ≡ r.number
  pub is_side : request.side ≡ r.side
  pub goes_then : request.again ≡ r.again

-- no other branch of a request has the name of this one
abbrev pub IsOnly : OpenRequest → Branch → Type 0
IsOnly r b = (x : Branch) → Contains r.branches x → is_same_branch x b ≡ true → x ≡ b

-- time passes in a step, and a branch leaves its phase
pub record LeavesPhase (link : Link) (r : OpenRequest) (b : Branch) : Type 0 where
  pub until : ℕ
  pub is_passing : link.act ≡ Passing until
  pub is_left : StaysInPhase link.after r b → ⊥

-- A branch to a target, without a final response before a step, has to end in it with an answer: a final response that is no 2xx is
-- taken for it; its request could not be sent; or time passes, and it leaves its phase at its deadline (RFC 3261 16.7 to 16.9).
pub data MustEnd (server : Server) (link : Link) (r : OpenRequest) (b : Branch) : Final → Type 0 where
  HasAnswer : (status : ℕ) (response : Message) → IsTakenFor server link response (Respond r b status) → is_provisional status ≡ false
      → is_success status ≡ false → MustEnd server link r b (final_of status response)
  HasFailed : (when : ℕ) (ticket : Ticket) → link.act ≡ Given (Fault when ticket) → ticket.datagram ≡ r.number → ticket.branch ≡ b.number
      → is_unheard b.phase ≡ true → MustEnd server link r b (record { status = 503; message = None })
  HasWaited : (last : Final) → LeavesPhase link r b → EndsNow server link.before link.act link.out.at r b last → MustEnd server link r b last

-- A branch to a target of an INVITE has to be sent its CANCEL in a step: it was to be cancelled, and its first provisional response
-- is taken for it; or it was heard before, and now the caller cancels its request, which owes its final answer; the first final
-- response of another branch, a 2xx or 6xx, is taken; or time passes, and it leaves its phase at Timer C (RFC 3261 9.1, 16.7 step
-- 10, 16.8, 16.10).
pub data MustCancel (server : Server) (link : Link) (r : OpenRequest) (b : Branch) : Type 0 where
  OnceHeard : (status : ℕ) (response : Message) → IsTakenFor server link response (Respond r b status) → is_provisional status ≡ true
      → b.wants_cancel ≡ true → is_unheard b.phase ≡ true → MustCancel server link r b
  WithCaller : (m : Message) → IsTakenFor server link m (Cancel (Some r)) → is_answering r.side ≡ true → is_ready b.phase ≡ true
      → MustCancel server link r b
  WithAnother : (other : Branch) (status : ℕ) (response : Message) → IsTakenFor server link response (Respond r other status)
      → other.is_cancel ≡ false → is_final other.phase ≡ false → (is_success status || is_decline status) ≡ true
      → is_same_branch b other ≡ false → is_ready b.phase ≡ true → MustCancel server link r b
  AtTimerC : LeavesPhase link r b → b.phase ≡ Heard link.out.at → MustCancel server link r b

-- What a step owes:
-- the ACK of the first final response of a branch of an INVITE, of 300 to 699, that is taken;
-- to the caller the response that is taken and passed on at once, or the best of what its branches ended with, as the last of them
-- has to end and no final answer went before;
-- the CANCEL of each branch that has to be sent it;
-- to a copy of an open request, which is no ACK, its last answer again; and to a final response that comes again its ACK again;
-- as time passes, what a branch sends, or the last answer, again, where its moment is the step's, no deadline of it is, and after
-- the step it has another moment.
pub data Owes (server : Server) (link : Link) : Packet → Type 0 where
  TheAck : (r : OpenRequest) (b : Branch) (status : ℕ) (response : Message) (p : Packet)
      → IsTakenFor server link response (Respond r b status) → b.is_cancel ≡ false → is_invite r ≡ true → is_failure status ≡ true
      → is_final b.phase ≡ false → Contains (ack_packets server false r b (first_value Name.To response.fields)) p → Owes server link p
  ThePassedOn : (r : OpenRequest) (b : Branch) (status : ℕ) (response : Message) → IsTakenFor server link response (Respond r b status)
      → b.is_cancel ≡ false → IsPassedOn r b status → Owes server link (answer_to false r (text_of (without_top_via response)))
  TheBest : (r : OpenRequest) (b : Branch) (last best : Final) → Contains link.before.requests r → Contains r.branches b
      → b.is_cancel ≡ false → is_final b.phase ≡ false → MustEnd server link r b last → OthersEnded r b → is_answering r.side ≡ true
      → best_of (r.finals ++ last ∷ []) ≡ Some best → Owes server link (answer_to false r (text_of (upward_of server r best).message))
  TheCancel : (r : OpenRequest) (b : Branch) (p : Packet) → Contains link.before.requests r → Contains r.branches b
      → b.is_cancel ≡ false → is_invite r ≡ true → MustCancel server link r b
      → Contains (to_branch r b 0 false (cancel_of (request_of server r b))) p → Owes server link p
  TheCopy : (r : OpenRequest) (m : Message) (p : Packet) → IsTakenFor server link m (Copy r)
      → bytes_eq (method_of m.start) (codes "ACK") ≡ false → Contains (answers_again r r.answer) p → Owes server link p
  TheAckAgain : (r : OpenRequest) (b : Branch) (status : ℕ) (response : Message) (p : Packet)
      → IsTakenFor server link response (Respond r b status) → Contains (acked_again server r b status) p → Owes server link p
  TheNext : (r : OpenRequest) (b : Branch) (until : ℕ) (p : Packet) → link.act ≡ Passing until → Contains link.before.requests r
      → Contains r.branches b → IsOnly r b → branch_due r b ≡ Some link.out.at → (phase_deadline b.phase ≡ Some link.out.at → ⊥)
      → (KeepsMoment link.after r b → ⊥) → Contains (branch_packets server true r b) p → Owes server link p
  TheNextAnswer : (r : OpenRequest) (until : ℕ) (p : Packet) → link.act ≡ Passing until → Contains link.before.requests r
      → answer_due r ≡ Some link.out.at → (side_deadline r.side ≡ Some link.out.at → ⊥) → (KeepsAnswer link.after r → ⊥)
      → Contains (answers_again r r.answer) p → Owes server link p

-- ---- the audit log

-- the records of a history, the newest step's first
abbrev pub recorded_by : List Link → List Record
recorded_by [] = []
recorded_by (link ∷ history) = link.out.records ++ recorded_by history

-- the number of a record is above those of some others
abbrev pub IsAbove : List Record → Record → Type 0
IsAbove others r = AllByRecursion (λ (other : Record). other.number < r.number) others

-- ---- moments

-- the moment after a history: its newest step's, and 0 before the first
abbrev pub moment_in : List Link → ℕ
moment_in [] = 0
moment_in (link ∷ history) = link.out.at

-- A step after a moment stands at its own: an event at its moment, or at the last one if it goes back; time that passes at one no
-- earlier than the last, and no later than the moment up to
-- which it passes.
abbrev pub StandsAt : ℕ → Act → ℕ → Type 0
StandsAt last (Given event) at = at ≡ max last (event_moment event)
StandsAt last (Passing until) at = (last ≤ at) × (at ≤ max last until)

-- ---- the law

-- A step is lawful by its history: it stands at its moment; from then on the bindings before it say the same as those that the
-- allowed REGISTERs of its history make, and those after it do so with its own;
-- what it is taken for is served by these; all that it sends for the first time is owed, and is exactly what its datagram gets and
-- what an open request does; all that goes again has its
-- cause, is of a request that is open, and went before; all that it owes is among what it hands out, and it passes over no deadline,
-- and no moment at which something goes again; and it records the request that policy was asked about, and nothing else,
-- under a number above all before.
pub record IsLawful (server : Server) (history : List Link) (link : Link) : Type 0 where
  pub stands : StandsAt (moment_in history) link.act link.out.at
  pub bindings : SameBindings link.before.moment link.before.bindings (bindings_after server history)
  pub binds : SameBindings link.after.moment link.after.bindings (bindings_after server (link ∷ history))
  pub serves : Serves (under server link.config) (bindings_after server history) link.before link.act link.out
  pub owed : AllByRecursion (IsOwed (under server link.config) (link ∷ history) link.before link.act (bindings_after server history)) (originals link.out.packets)
  pub sent : IsAllSent (under server link.config) (link ∷ history) link.before link.act link.out.at (originals link.out.packets)
  pub again : GoesAgain (under server link.config) link.before link.act link.out.at (retransmissions link.out.packets)
  pub repeats : AllByRecursion (IsRetransmission (under server link.config) link.before.requests) (retransmissions link.out.packets)
  pub went : AllByRecursion (λ (p : Packet). Contains (sent_first history) (first_sending p)) (retransmissions link.out.packets)
  pub pays : (p : Packet) → Owes (under server link.config) link p → Contains link.out.packets p
  pub none_passed : NoneBefore link.out.at link.before.requests
  pub none_again : NoneAgainBefore link.out.at link.before.requests
  pub records : link.out.records ≡ records_at (under server link.config) link.before link.act
  pub rise : AllByRecursion (IsAbove (recorded_by history)) link.out.records

-- every step of a history is lawful by the history before it
abbrev pub Access : Server → List Link → Type 0
Access server [] = Unit {0}
Access server (link ∷ history) = IsLawful server history link × Access server history
