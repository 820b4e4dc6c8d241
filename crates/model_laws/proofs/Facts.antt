-- What a verdict on a message says of that message, where it changes what is known of dialogs.
use Rattle.std.proofs.Common.{◌≡◌, ℕ, Bool, true, false, cond, ◌&&◌, ◌||◌, List, [], codes, find, Option, Some, None, option_and_then, is_some, refl, ap}
use Rattle.std.proofs.Common.{subst, ◌∙◌, bytes_eq}
use Rattle.std.specs.Result.{result_ok}
use Rattle.sip_message_fields.specs.Values.{values_of}
use Rattle.sip_message_fields.specs.declared.field_name.FieldName.TheVariants as Name
use Rattle.sip_message_form.specs.declared.message.Start.{Start}
use Rattle.sip_message_form.specs.declared.message.Start.TheVariants.{Request, Status}
use Rattle.sip_message_form.specs.declared.message.Message.{Message}
use Rattle.sip_transaction_table.specs.declared.key.TransactionKey.{TransactionKey}
use Rattle.sip_transaction_table.specs.Key.{key_of}
use Rattle.sip_header.specs.declared.core_fields.CoreFields.{CoreFields}
use Rattle.sip_header.specs.CoreFields.{core_of, cseq_in}
use Rattle.sip_uri.specs.declared.addr.Addr.{Addr}
use Rattle.sip_policy.specs.declared.decision.Decision.{Decision}
use Rattle.sip_validate.specs.Refusal.{refusal_of, is_bad_request}
use Rattle.sip_dialog.specs.declared.dialog.DialogId.{DialogId}
use Rattle.sip_dialog.specs.Dialogs.{is_in_dialog}
use Rattle.sip_model.specs.state.declared.server.Server.{Server}
use Rattle.sip_model.specs.state.declared.proxy_state.ProxyState.{ProxyState}
use Rattle.sip_model.specs.state.declared.open_request.OpenRequest.{OpenRequest}
use Rattle.sip_model.specs.state.declared.branch.Branch.{Branch}
use Rattle.sip_model.specs.state.State.{has_key}
use Rattle.sip_model.specs.state.Dialogs.{dialog_of}
use Rattle.sip_model.specs.state.Arrival.{Arrival}
use Rattle.sip_model.specs.context_model.Branches.{is_accepted}
use Rattle.sip_model.specs.verdict_model.declared.question.Question.{Question}
use Rattle.sip_model.specs.verdict_model.Verdict.{Verdict, Drop, Respond, Copy, AckOn, Cancel, Answer, InDialog, Challenge, Deny, Send, Register, is_many}
use Rattle.sip_model.specs.verdict_model.Verdict.{response_verdict, top_branch, responding, within_at, within, next_address, ack_verdict, is_full, is_cancelled_by}
use Rattle.sip_model.specs.verdict_model.Verdict.{found_for_cancel, cancel_verdict, is_register, registration_by, request_targets, let_through, decided, policy_verdict}
use Rattle.sip_model.specs.verdict_model.Verdict.{question_of, answer_of, is_outside, core_verdict, checked_verdict, new_verdict, by_open, by_key, by_start}
use Rattle.sip_model.specs.verdict_model.Verdict.{message_verdict}
use Rattle.sip_model.specs.steps_model.Effect.{method_of}
use Rattle.sip_model.proofs.Places.{IsIn, found_in}
use Rattle.sip_model.proofs.Verdicts.{IsFound, found_for}

-- ---- what is said of a verdict

-- a response is for a branch of an open request
pub record IsForBranch (server : Server) (state : ProxyState) (m : Message) (short : Bool) (r : OpenRequest) (b : Branch) (status : ℕ) : Type 0 where
  pub reason : List ℕ
  pub is_whole : short ≡ false
  pub is_response : m.start ≡ Status status reason
  pub is_for : responding server state.requests m.fields ≡ Some (r, b)
  pub is_open : IsIn r state.requests

-- a CANCEL names an open request
pub record IsCancelOf (state : ProxyState) (a : Arrival) (m : Message) (r : OpenRequest) : Type 0 where
  pub key : TransactionKey
  pub is_key : key_of m ≡ Some key
  pub is_cancel : bytes_eq (method_of m.start) (codes "CANCEL") ≡ true
  pub is_found : found_for_cancel state key a.from ≡ Some r
  pub is_open : IsIn r state.requests

-- a request has a key, and is no ACK
pub record IsKeyed (m : Message) : Type 0 where
  pub key : TransactionKey
  pub is_key : key_of m ≡ Some key
  pub is_no_ack : bytes_eq (method_of m.start) (codes "ACK") ≡ false

-- what a CANCEL names, if it names one
abbrev pub CancelFacts : ProxyState → Arrival → Message → Option OpenRequest → Type 0
CancelFacts state a m None = Unit {0}
CancelFacts state a m (Some r) = IsCancelOf state a m r

-- by the kind of the verdict
abbrev pub Facts : Server → ProxyState → Arrival → Message → Bool → Verdict → Type 0
Facts server state a m short Drop = Unit {0}
Facts server state a m short (Respond r b status) = IsForBranch server state m short r b status
Facts server state a m short (Copy r) = IsIn r state.requests
Facts server state a m short (AckOn address id) = dialog_of m ≡ Some id
Facts server state a m short (Cancel found) = CancelFacts state a m found
Facts server state a m short (Answer status extras) = Unit {0}
Facts server state a m short (InDialog address id) = IsKeyed m × (dialog_of m ≡ Some id)
Facts server state a m short (Challenge q) = Unit {0}
Facts server state a m short (Deny q id) = Unit {0}
Facts server state a m short (Send q id targets) = IsKeyed m
Facts server state a m short (Register q id outcome) = Unit {0}

-- ---- a CANCEL

-- the request that it names, only if a test passes
there_if : (requests : List OpenRequest) (r x : OpenRequest) (t : Bool) → IsIn r requests → cond t (Some r) None ≡ Some x → IsIn x requests
there_if requests r x true h e = let same : r ≡ x = cc in subst (λ (y : OpenRequest). IsIn y requests) same h
there_if requests r x false h e = absurd (cc)

-- it is open
cancelled_there : (state : ProxyState) (key : TransactionKey) (from : Addr) (x : OpenRequest) → found_for_cancel state key from ≡ Some x → IsIn x state.requests
cancelled_there state key from x e = by_found (find (is_cancelled_by key) state.requests) refl e where
  by_found : (o : Option OpenRequest) → find (is_cancelled_by key) state.requests ≡ o
      → option_and_then (λ r. cond (bytes_eq r.request.source.ip from.ip) (Some r) None) o ≡ Some x
      → IsIn x state.requests
  by_found None is f = absurd (cc)
  by_found (Some r) is f = there_if state.requests r x (bytes_eq r.request.source.ip from.ip) (found_in (is_cancelled_by key) state.requests r is).0 f

module _ (server : Server) (state : ProxyState) (a : Arrival) (m : Message) (short : Bool) where
  -- one of two verdicts, by a test
  facts_either : (t : Bool) (v w : Verdict) → Facts server state a m short v → Facts server state a m short w → Facts server state a m short (cond t v w)
  facts_either true v w first second = first
  facts_either false v w first second = second

  -- a response
  response_facts : (status : ℕ) (reason : List ℕ) → m.start ≡ Status status reason → (t : Bool) → short ≡ t
      → Facts server state a m short (cond t Drop (response_verdict m.fields status (responding server state.requests m.fields)))
  response_facts status reason start true is = tt
  response_facts status reason start false is = by_found (responding server state.requests m.fields) refl
      (found_for server state.requests (top_branch server m.fields) (result_ok (cseq_in m.fields))) where
        by_found : (o : Option (OpenRequest × Branch)) → responding server state.requests m.fields ≡ o → IsFound state.requests o
            → Facts server state a m short (response_verdict m.fields status o)
        by_found None found there = tt
        by_found (Some x) found there =
            facts_either (x.1.is_cancel || is_many (values_of Name.Via m.fields)) (Respond x.0 x.1 status) Drop
            (record { reason = reason; is_whole = is; is_response = start; is_for = found; is_open = there.0 }) tt

  -- within a dialog
  within_facts : (now : ℕ) (on : Addr → DialogId → Verdict) (none : Verdict)
      → ((address : Addr) (id : DialogId) → dialog_of m ≡ Some id → Facts server state a m short (on address id))
      → Facts server state a m short none → Facts server state a m short (within server state now m on none)
  within_facts now on none there not_there = by_both (dialog_of m) refl (next_address server m) where
    by_both : (o : Option DialogId) → dialog_of m ≡ o → (address : Option Addr) → Facts server state a m short (within_at state now on none o address)
    by_both None is address = not_there
    by_both (Some id) is None = not_there
    by_both (Some id) is (Some address) = facts_either (is_in_dialog now state.dialogs id address) (on address id) none (there address id is) not_there

  -- an ACK
  ack_facts : (now : ℕ) → Facts server state a m short (ack_verdict server state now m short)
  ack_facts now =
      facts_either (is_some (refusal_of server.config.own m short)) Drop (within server state now m AckOn Drop) tt (within_facts now AckOn Drop (λ address id e. e) tt)

  -- a CANCEL
  cancel_facts : (key : TransactionKey) → key_of m ≡ Some key → bytes_eq (method_of m.start) (codes "CANCEL") ≡ true
      → Facts server state a m short (cancel_verdict server state a m short key)
  cancel_facts key is cancel =
      facts_either (is_bad_request server.config.own m short) (Answer 400 []) (cond (is_full state) (Answer 503 []) (Cancel (found_for_cancel state key a.from))) tt
      (facts_either (is_full state) (Answer 503 []) (Cancel (found_for_cancel state key a.from)) tt (by_found (found_for_cancel state key a.from) refl)) where
        by_found : (o : Option OpenRequest) → found_for_cancel state key a.from ≡ o → CancelFacts state a m o
        by_found None found = tt
        by_found (Some r) found = record { key = key; is_key = is; is_cancel = cancel; is_found = found; is_open = cancelled_there state key a.from r found }

  -- a request that was let through
  let_through_facts : (now : ℕ) (method : List ℕ) (core : CoreFields) (q : Question) (id : ℕ) (d : Decision) → IsKeyed m
      → Facts server state a m short (let_through server state now m method core q id d)
  let_through_facts now method core q id d keyed =
      facts_either (is_register method) (Register q id (registration_by server state.bindings now m core)) (Send q id (request_targets server state.bindings now m q d))
      tt keyed

  -- what policy decides
  decided_facts : (now : ℕ) (method : List ℕ) (core : CoreFields) (q : Question) (d : Decision) → IsKeyed m
      → Facts server state a m short (decided server state now m method core q d)
  decided_facts now method core q Decision.Challenge keyed = tt
  decided_facts now method core q (Decision.Deny id) keyed = tt
  decided_facts now method core q (Decision.Allow id) keyed = let_through_facts now method core q id (Decision.Allow id) keyed
  decided_facts now method core q (Decision.Via id hop) keyed = let_through_facts now method core q id (Decision.Via id hop) keyed

  -- a request with core fields
  core_facts : (now : ℕ) (method : List ℕ) (core : Option CoreFields) → IsKeyed m → Facts server state a m short (core_verdict server state now m method core)
  core_facts now method None keyed = tt
  core_facts now method (Some core) keyed =
      facts_either (is_outside method core) (policy_verdict server state now m method core) (within server state now m InDialog (Answer 481 []))
      (decided_facts now method core (question_of server state.nonces now m method core) (answer_of server (question_of server state.nonces now m method core)) keyed)
      (within_facts now InDialog (Answer 481 []) (λ address id e. (keyed, e)) tt)

  -- a request that was checked
  checked_facts : (now : ℕ) (method : List ℕ) (refusal : Option (ℕ × List ℕ)) → IsKeyed m
      → Facts server state a m short (checked_verdict server state now m method refusal)
  checked_facts now method (Some refusal) keyed = tt
  checked_facts now method None keyed =
      facts_either (is_full state) (Answer 503 []) (core_verdict server state now m method (result_ok (core_of m))) tt
      (core_facts now method (result_ok (core_of m)) keyed)

  -- a request whose key isn't open
  new_facts : (method : List ℕ) (key : TransactionKey) → method_of m.start ≡ method → key_of m ≡ Some key
      → Facts server state a m short (new_verdict server state a m short method key)
  new_facts method key is keyed = by_tests (bytes_eq method (codes "ACK")) refl (bytes_eq method (codes "CANCEL")) refl where
    by_tests : (t : Bool) → bytes_eq method (codes "ACK") ≡ t → (u : Bool) → bytes_eq method (codes "CANCEL") ≡ u
        → Facts server state a m short (cond t (ack_verdict server state a.now m short)
        (cond u (cancel_verdict server state a m short key) (checked_verdict server state a.now m method (refusal_of server.config.own m short))))
    by_tests true ack u cancel = ack_facts a.now
    by_tests false ack true cancel = cancel_facts key keyed (ap (λ (v : List ℕ). bytes_eq v (codes "CANCEL")) is ∙ cancel)
    by_tests false ack false cancel =
        checked_facts a.now method (refusal_of server.config.own m short) (record {
          key = key;
          is_key = keyed;
          is_no_ack = ap (λ (v : List ℕ). bytes_eq v (codes "ACK")) is ∙ ack;
        })

  -- a request whose key may be open
  open_facts : (method : List ℕ) (key : TransactionKey) (o : Option OpenRequest) → method_of m.start ≡ method → key_of m ≡ Some key
      → find (has_key key) state.requests ≡ o
      → Facts server state a m short (by_open server state a m short method key o)
  open_facts method key (Some r) is keyed found =
      facts_either (bytes_eq method (codes "ACK") && is_accepted r) (ack_verdict server state a.now m short) (Copy r) (ack_facts a.now)
      (found_in (has_key key) state.requests r found).0
  open_facts method key None is keyed found = new_facts method key is keyed

  -- a request that may have a key
  key_facts : (method : List ℕ) (o : Option TransactionKey) → method_of m.start ≡ method → key_of m ≡ o
      → Facts server state a m short (by_key server state a m short method o)
  key_facts method None is keyed = tt
  key_facts method (Some key) is keyed = open_facts method key (find (has_key key) state.requests) is keyed refl

  -- a request or a response
  start_facts : (start : Start) → m.start ≡ start → Facts server state a m short (by_start server state a m short start)
  start_facts (Status code reason) e = response_facts code reason e short refl
  start_facts (Request method uri version) e = key_facts method (key_of m) (ap method_of e) refl

  -- any message
  pub message_facts : Facts server state a m short (message_verdict server state a m short)
  message_facts = start_facts m.start refl
