-- What a verdict on a message tells of the answer that it makes.
use Rattle.std.proofs.Common.{◌≡◌, ◌≢◌, ℕ, ◌≤◌, ◌<◌, ◌^◌, Bool, true, false, cond, ◌&&◌, ◌||◌, List, [], codes, find, Contains, Option, Some, None, Result, Ok, Err}
use Rattle.std.proofs.Common.{option_map, refl, ap, subst, ◌∙◌, arith, bytes_eq, is_some}
use Rattle.std.specs.Option.{option_map_or}
use Rattle.std.specs.Result.{result_ok}
use Rattle.std.specs.List.{AllByRecursion}
use Rattle.std.proofs.lemmas.Slice.Eq.{bytes_eq-Decides}
use Rattle.std.proofs.lemmas.List.Elements.{All-from_recursion, All-contains}
use Rattle.sip_message_form.specs.declared.message.Start.{Start}
use Rattle.sip_message_form.specs.declared.message.Start.TheVariants.{Request, Status}
use Rattle.sip_message_form.specs.declared.message.Message.{Message}
use Rattle.sip_uri.specs.declared.addr.Addr.{Addr}
use Rattle.sip_transaction_table.specs.declared.key.TransactionKey.{TransactionKey}
use Rattle.sip_transaction_table.specs.Key.{key_of}
use Rattle.sip_header.specs.declared.core_fields.CoreFields.{CoreFields}
use Rattle.sip_header.specs.declared.error.HeaderError.{HeaderError}
use Rattle.sip_header.specs.CoreFields.{core_of}
use Rattle.sip_route.specs.Way.{request_uri_of}
use Rattle.sip_dialog.specs.declared.dialog.DialogId.{DialogId}
use Rattle.sip_dialog.specs.Dialogs.{is_in_dialog}
use Rattle.sip_validate.specs.UncheckedRequest.{UncheckedRequest}
use Rattle.sip_validate.specs.Refusal.{Row, rows as checks, refusal, refusal_of, unchecked_of, is_bad_request}
use Rattle.sip_policy.specs.declared.decision.Decision.{Decision}
use Rattle.sip_policy.specs.User.{is_users_address}
use Rattle.sip_location.specs.declared.binding.Binding.{Binding}
use Rattle.sip_location.specs.declared.error.LocationError.{LocationError}
use Rattle.sip_location.specs.declared.error.LocationError.TheVariants.{NoMemory, BadStar, TooBrief, OldCSeq, TooMany}
use Rattle.sip_location.specs.Registration.{registered}
use Rattle.sip_location.specs.Registering.{aor_or_nobody, to_aor, registration_of}
use Rattle.sip_model.specs.state.declared.server.Server.{Server}
use Rattle.sip_model.specs.state.declared.branch.Branch.{Branch}
use Rattle.sip_model.specs.state.declared.open_request.OpenRequest.{OpenRequest}
use Rattle.sip_model.specs.state.declared.proxy_state.ProxyState.{ProxyState}
use Rattle.sip_model.specs.state.State.{has_key}
use Rattle.sip_model.specs.state.Dialogs.{dialog_of}
use Rattle.sip_model.specs.state.Arrival.{Arrival}
use Rattle.sip_model.specs.context_model.Branches.{is_accepted}
use Rattle.sip_model.specs.verdict_model.declared.question.Question.{Question}
use Rattle.sip_model.specs.verdict_model.Verdict.{Registered, Bound, Refused, Verdict, Drop, Respond, Copy, AckOn, Cancel, Answer, InDialog, Challenge, Deny, Send}
use Rattle.sip_model.specs.verdict_model.Verdict.{Register, is_many, response_verdict, responding, next_address, within_at, within, ack_verdict, is_full}
use Rattle.sip_model.specs.verdict_model.Verdict.{found_for_cancel, cancel_verdict, is_register, question_of, registered_by, is_own_uri, registration_by, request_targets}
use Rattle.sip_model.specs.verdict_model.Verdict.{let_through, decided, policy_verdict, is_outside, core_verdict, checked_verdict, new_verdict, by_open, by_key, by_start}
use Rattle.sip_model.specs.verdict_model.Verdict.{message_verdict}
use Rattle.sip_message_fields.specs.declared.field_name.FieldName.TheVariants as Name
use Rattle.sip_message_fields.specs.Values.{values_of}
use Rattle.sip_model.specs.Access.{rule_of, decision_on}
use Rattle.model_laws.proofs.Belonging.{is_found, taken}

-- ---- statuses

-- a status that isn't 200, and that can be written
abbrev pub IsOther : ℕ → Type 0
IsOther status = (status < 2 ^ 64) × (status ≢ 200)

pub above : (status : ℕ) → status < 2 ^ 64 → 201 ≤ status → IsOther status
above status fits more = (fits, λ e. absurd (omega (arith, more, e)))

-- no check refuses with 200
rows_other : AllByRecursion (λ (row : Row). IsOther row.status) checks
rows_other = (
  above 400 (omega arith) (omega arith),
  (
    above 505 (omega arith) (omega arith),
    (
      above 416 (omega arith) (omega arith),
      (
        above 483 (omega arith) (omega arith),
        (above 482 (omega arith) (omega arith), (above 420 (omega arith) (omega arith), (above 400 (omega arith) (omega arith), tt))),
      ),
    ),
  ),
)

row_other : (c : UncheckedRequest) (x : ℕ × List ℕ) → refusal c ≡ Some x → IsOther x.0
row_other c x e = by_row (find (λ (row : Row). row.applies c) checks) refl e where
  by_row : (o : Option Row) → find (λ (row : Row). row.applies c) checks ≡ o → option_map (λ (row : Row). (row.status, row.extra c)) o ≡ Some x → IsOther x.0
  by_row None is e = absurd (cc)
  by_row (Some row) is e =
      let there : Contains checks row = (is_found (λ (r : Row). r.applies c) checks row is).is_there in
      let other : IsOther row.status = All-contains (λ (r : Row). IsOther r.status) checks row (All-from_recursion (λ (r : Row). IsOther r.status) checks rows_other)
      there in
      subst IsOther (ap (λ (o : Option (ℕ × List ℕ)). (option_map_or (λ (y : ℕ × List ℕ). y) o (0, [])).0) e) other

pub refusal_other : (o : Option UncheckedRequest) (x : ℕ × List ℕ) → option_map_or refusal o None ≡ Some x → IsOther x.0
refusal_other None x e = absurd (cc)
refusal_other (Some c) x e = row_other c x e

-- ---- what is told

-- an ACK
pub record IsAck (m : Message) : Type 0 where
  pub uri : List ℕ
  pub version : List ℕ
  pub is_ack : m.start ≡ Request (codes "ACK") uri version

-- a CANCEL that names an open request
pub record Cancels (state : ProxyState) (a : Arrival) (m : Message) (request : OpenRequest) : Type 0 where
  pub uri : List ℕ
  pub version : List ℕ
  pub key : TransactionKey
  pub is_cancel : m.start ≡ Request (codes "CANCEL") uri version
  pub key_is : key_of m ≡ Some key
  pub names : found_for_cancel state key a.from ≡ Some request

-- a REGISTER that binds
pub record Registers (server : Server) (state : ProxyState) (a : Arrival) (m : Message) (short : Bool) (q : Question) (rows : List Binding) : Type 0 where
  pub uri : List ℕ
  pub version : List ℕ
  pub core : CoreFields
  pub id : ℕ
  pub is_register : m.start ≡ Request (codes "REGISTER") uri version
  pub is_valid : refusal_of server.config.own m short ≡ None
  pub core_is : core_of m ≡ Ok core
  pub is_let_through : rule_of (decision_on server state a.now m (codes "REGISTER") core) ≡ Some id
  pub binds : registration_by server state.bindings a.now m core ≡ Bound rows
  pub target : q.target ≡ to_aor core

-- a registration is refused with another status than 200
abbrev RefusesOther : Registered → Type 0
RefusesOther (Bound rows) = Unit {0}
RefusesOther (Refused status extras) = IsOther status

refused_other : (outcome : Result (List Binding) LocationError) → RefusesOther (registered_by outcome)
refused_other (Ok rows) = tt
refused_other (Err NoMemory) = above 503 (omega arith) (omega arith)
refused_other (Err BadStar) = above 400 (omega arith) (omega arith)
refused_other (Err TooBrief) = above 423 (omega arith) (omega arith)
refused_other (Err OldCSeq) = above 500 (omega arith) (omega arith)
refused_other (Err TooMany) = above 503 (omega arith) (omega arith)

registration_other : (server : Server) (rows : List Binding) (now : ℕ) (m : Message) (core : CoreFields) → RefusesOther (registration_by server rows now m core)
registration_other server rows now m core =
    by_test (is_own_uri server (request_uri_of server.config.own m) && is_users_address server.config.users server.config.own.domains (to_aor core)) where
      by_test : (t : Bool) → RefusesOther (cond t (registered_by (registered rows (registration_of core m.fields) now)) (Refused 404 []))
      by_test true = refused_other (registered rows (registration_of core m.fields) now)
      by_test false = above 404 (omega arith) (omega arith)

module _ (server : Server) (state : ProxyState) (a : Arrival) (m : Message) (short : Bool) where
  -- by the verdict on the message
  abbrev pub Tells : Verdict → Type 0
  Tells Drop = Unit {0}
  Tells (Respond r b status) = r.number ≢ a.number
  Tells (Copy r) = Unit {0}
  Tells (AckOn address id) = IsAck m
  Tells (Cancel None) = Unit {0}
  Tells (Cancel (Some r)) = Cancels state a m r
  Tells (Answer status extras) = IsOther status
  Tells (InDialog address id) = Unit {0}
  Tells (Challenge q) = Unit {0}
  Tells (Deny q id) = Unit {0}
  Tells (Send q id targets) = Unit {0}
  Tells (Register q id (Bound rows)) = Registers server state a m short q rows
  Tells (Register q id (Refused status extras)) = IsOther status

  -- ---- each verdict tells it

  within_tells : (on : Addr → DialogId → Verdict) (none : Verdict) → ((address : Addr) (id : DialogId) → Tells (on address id)) → Tells none
      → (o : Option DialogId) (p : Option Addr) → Tells (within_at state a.now on none o p)
  within_tells on none known unknown None p = unknown
  within_tells on none known unknown (Some id) None = unknown
  within_tells on none known unknown (Some id) (Some address) = by_test (is_in_dialog a.now state.dialogs id address) where
    by_test : (t : Bool) → Tells (cond t (on address id) none)
    by_test true = known address id
    by_test false = unknown

  ack_tells : IsAck m → Tells (ack_verdict server state a.now m short)
  ack_tells is = by_test (is_some (refusal_of server.config.own m short)) where
    by_test : (t : Bool) → Tells (cond t Drop (within server state a.now m AckOn Drop))
    by_test true = tt
    by_test false = within_tells AckOn Drop (λ address id. is) tt (dialog_of m) (next_address server m)

  found_tells : (uri version : List ℕ) (key : TransactionKey) → m.start ≡ Request (codes "CANCEL") uri version → key_of m ≡ Some key
      → Tells (Cancel (found_for_cancel state key a.from))
  found_tells uri version key is key_is = by_found (found_for_cancel state key a.from) refl where
    by_found : (o : Option OpenRequest) → found_for_cancel state key a.from ≡ o → Tells (Cancel o)
    by_found None e = tt
    by_found (Some r) e = record { uri = uri; version = version; key = key; is_cancel = is; key_is = key_is; names = e }

  cancel_tells : (uri version : List ℕ) (key : TransactionKey) → m.start ≡ Request (codes "CANCEL") uri version → key_of m ≡ Some key
      → Tells (cancel_verdict server state a m short key)
  cancel_tells uri version key is key_is = by_tests (is_bad_request server.config.own m short) (is_full state) where
    by_tests : (s t : Bool) → Tells (cond s (Answer 400 []) (cond t (Answer 503 []) (Cancel (found_for_cancel state key a.from))))
    by_tests true t = above 400 (omega arith) (omega arith)
    by_tests false true = above 503 (omega arith) (omega arith)
    by_tests false false = found_tells uri version key is key_is

  -- a request of a method
  module _ (method uri version : List ℕ) (line : m.start ≡ Request method uri version) where
    -- the same line, where the method is known
    line_with : (known : List ℕ) → bytes_eq method known ≡ true → m.start ≡ Request known uri version
    line_with known e = line ∙ ap (λ (x : List ℕ). Request x uri version) ((bytes_eq-Decides method known).0 e)

    registers_tells : (core : CoreFields) (id : ℕ) → refusal_of server.config.own m short ≡ None → core_of m ≡ Ok core → is_register method ≡ true
        → rule_of (decision_on server state a.now m method core) ≡ Some id
        → Tells (Register (question_of server state.nonces a.now m method core) id (registration_by server state.bindings a.now m core))
    registers_tells core id valid core_is registers rule =
        by_outcome (registration_by server state.bindings a.now m core) refl (registration_other server state.bindings a.now m core) where
          by_outcome : (o : Registered) → registration_by server state.bindings a.now m core ≡ o → RefusesOther o
              → Tells (Register (question_of server state.nonces a.now m method core) id o)
          by_outcome (Bound rows) e other =
              record {
                uri = uri;
                version = version;
                core = core;
                id = id;
                is_register = line_with (codes "REGISTER") registers;
                is_valid = valid;
                core_is = core_is;
                is_let_through = subst (λ (x : List ℕ). rule_of (decision_on server state a.now m x core) ≡ Some id)
                    ((bytes_eq-Decides method (codes "REGISTER")).0 registers) rule;
                binds = e;
                target = ap (λ (t : Bool). cond t (to_aor core) (aor_or_nobody (request_uri_of server.config.own m))) registers;
              }
          by_outcome (Refused status extras) e other = other

    let_tells : (core : CoreFields) (id : ℕ) (d : Decision) → refusal_of server.config.own m short ≡ None → core_of m ≡ Ok core
        → decision_on server state a.now m method core ≡ d → rule_of d ≡ Some id
        → Tells (let_through server state a.now m method core (question_of server state.nonces a.now m method core) id d)
    let_tells core id d valid core_is is rule = by_test (is_register method) refl where
      by_test : (t : Bool) → is_register method ≡ t
          → Tells (cond t (Register (question_of server state.nonces a.now m method core) id (registration_by server state.bindings a.now m core))
          (Send (question_of server state.nonces a.now m method core) id (request_targets server state.bindings a.now m
          (question_of server state.nonces a.now m method core) d)))
      by_test true e = registers_tells core id valid core_is e (ap rule_of is ∙ rule)
      by_test false e = tt

    policy_tells : (core : CoreFields) → refusal_of server.config.own m short ≡ None → core_of m ≡ Ok core → Tells (policy_verdict server state a.now m method core)
    policy_tells core valid core_is = by_decision (decision_on server state a.now m method core) refl where
      by_decision : (d : Decision) → decision_on server state a.now m method core ≡ d
          → Tells (decided server state a.now m method core (question_of server state.nonces a.now m method core) d)
      by_decision Decision.Challenge e = tt
      by_decision (Decision.Deny id) e = tt
      by_decision (Decision.Allow id) e = let_tells core id (Decision.Allow id) valid core_is e refl
      by_decision (Decision.Via id hop) e = let_tells core id (Decision.Via id hop) valid core_is e refl

    core_tells : refusal_of server.config.own m short ≡ None → (o : Result CoreFields HeaderError) → core_of m ≡ o
        → Tells (core_verdict server state a.now m method (result_ok o))
    core_tells valid (Err error) e = tt
    core_tells valid (Ok core) e = by_test (is_outside method core) where
      by_test : (t : Bool) → Tells (cond t (policy_verdict server state a.now m method core) (within server state a.now m InDialog (Answer 481 [])))
      by_test true = policy_tells core valid e
      by_test false = within_tells InDialog (Answer 481 []) (λ address id. tt) (above 481 (omega arith) (omega arith)) (dialog_of m) (next_address server m)

    checked_tells : (o : Option (ℕ × List ℕ)) → refusal_of server.config.own m short ≡ o → Tells (checked_verdict server state a.now m method o)
    checked_tells (Some x) e = refusal_other (unchecked_of server.config.own m short) x e
    checked_tells None e = by_test (is_full state) where
      by_test : (t : Bool) → Tells (cond t (Answer 503 []) (core_verdict server state a.now m method (result_ok (core_of m))))
      by_test true = above 503 (omega arith) (omega arith)
      by_test false = core_tells e (core_of m) refl

    new_tells : (key : TransactionKey) → key_of m ≡ Some key → Tells (new_verdict server state a m short method key)
    new_tells key key_is = by_tests (bytes_eq method (codes "ACK")) (bytes_eq method (codes "CANCEL")) refl refl where
      by_tests : (s t : Bool) → bytes_eq method (codes "ACK") ≡ s → bytes_eq method (codes "CANCEL") ≡ t
          → Tells (cond s (ack_verdict server state a.now m short)
          (cond t (cancel_verdict server state a m short key) (checked_verdict server state a.now m method (refusal_of server.config.own m short))))
      by_tests true t is other = ack_tells (record { uri = uri; version = version; is_ack = line_with (codes "ACK") is })
      by_tests false true is other = cancel_tells uri version key (line_with (codes "CANCEL") other) key_is
      by_tests false false is other = checked_tells (refusal_of server.config.own m short) refl

    open_tells : (key : TransactionKey) → key_of m ≡ Some key → (o : Option OpenRequest) → Tells (by_open server state a m short method key o)
    open_tells key key_is None = new_tells key key_is
    open_tells key key_is (Some r) = by_tests (bytes_eq method (codes "ACK")) (is_accepted r) refl where
      by_tests : (s t : Bool) → bytes_eq method (codes "ACK") ≡ s → Tells (cond (s && t) (ack_verdict server state a.now m short) (Copy r))
      by_tests true true is = ack_tells (record { uri = uri; version = version; is_ack = line_with (codes "ACK") is })
      by_tests true false is = tt
      by_tests false t is = tt

    key_tells : (o : Option TransactionKey) → key_of m ≡ o → Tells (by_key server state a m short method o)
    key_tells None e = tt
    key_tells (Some key) e = open_tells key e (find (has_key key) state.requests)

  -- where no open request has the number of the message's datagram
  pub verdict_tells : ((r : OpenRequest) → Contains state.requests r → r.number ≢ a.number) → Tells (message_verdict server state a m short)
  verdict_tells others = by_line m.start refl where
    by_response : (code : ℕ) (o : Option (OpenRequest × Branch)) → responding server state.requests m.fields ≡ o → Tells (response_verdict m.fields code o)
    by_response code None e = tt
    by_response code (Some x) e = by_test (x.1.is_cancel || is_many (values_of Name.Via m.fields)) where
      by_test : (t : Bool) → Tells (cond t (Respond x.0 x.1 code) Drop)
      by_test true = others x.0 (taken server state.requests m.fields x.0 x.1 e).is_open
      by_test false = tt

    by_short : (code : ℕ) (t : Bool) → Tells (cond t Drop (response_verdict m.fields code (responding server state.requests m.fields)))
    by_short code true = tt
    by_short code false = by_response code (responding server state.requests m.fields) refl

    by_line : (s : Start) → m.start ≡ s → Tells (by_start server state a m short s)
    by_line (Status code reason) e = by_short code short
    by_line (Request method uri version) e = key_tells method uri version e (key_of m) refl
