-- What stands wherever a verdict on a datagram is given.
use Rattle.std.proofs.Common.{◌≡◌, ◌∙◌, ℕ, ◌&&◌, ◌||◌, not, is_some, List, [], ◌∷◌, find, cond, codes, Bool, true, false, refl, ap, subst, Contains, Option, Some, None}
use Rattle.std.proofs.Common.{Result, Ok, Err, IfSome, option_map, option_and_then, bytes_eq, arith}
use Rattle.std.specs.List.{AllByRecursion}
use Rattle.std.specs.Option.{option_map_or}
use Rattle.std.specs.Result.{result_ok}
use Rattle.sip_message_fields.specs.declared.field_name.FieldName.TheVariants as Name
use Rattle.sip_message_fields.specs.declared.field.Field.{Field}
use Rattle.sip_message_form.specs.declared.message.Start.{Start}
use Rattle.sip_message_form.specs.declared.message.Start.TheVariants.{Request, Status}
use Rattle.sip_message_form.specs.declared.message.Message.{Message}
use Rattle.sip_message.specs.Reading.{reading_of}
use Rattle.sip_route.specs.declared.own.Own.{Own}
use Rattle.sip_transaction_table.specs.declared.key.TransactionKey.{TransactionKey}
use Rattle.sip_header.specs.declared.cseq.CSeq.{CSeq}
use Rattle.sip_header.specs.declared.core_fields.CoreFields.{CoreFields}
use Rattle.sip_transaction_table.specs.Key.{key_of}
use Rattle.sip_message_fields.specs.Values.{values_of}
use Rattle.sip_header.specs.CoreFields.{core_of, cseq_in}
use Rattle.sip_route.specs.Way.{request_uri_of}
use Rattle.sip_policy.specs.User.{is_users_address}
use Rattle.sip_uri.specs.declared.addr.Addr.{Addr}
use Rattle.sip_policy.specs.declared.decision.Decision.{Decision}
use Rattle.sip_location.specs.declared.binding.Binding.{Binding}
use Rattle.sip_location.specs.declared.error.LocationError.{LocationError}
use Rattle.sip_location.specs.declared.error.LocationError.TheVariants.{NoMemory, BadStar, TooBrief, OldCSeq, TooMany}
use Rattle.sip_location.specs.Registration.{registered}
use Rattle.sip_targets.specs.declared.targets.Targets.{Targets}
use Rattle.sip_validate.specs.UncheckedRequest.{UncheckedRequest}
use Rattle.sip_validate.specs.Refusal.{Row, rows, refusal, unchecked_by, unchecked_of, refusal_of, is_bad_request}
use Rattle.sip_dialog.specs.declared.dialog.DialogId.{DialogId}
use Rattle.sip_dialog.specs.Dialogs.{IsInDialog, is_in_dialog}
use Rattle.std.proofs.lemmas.Slice.Eq.{bytes_eq-Decides}
use Rattle.sip_dialog.specs.DialogId.{id_of}
use Rattle.sip_dialog.proofs.Tests.{test_says}
use Rattle.model_steps.specs.state.declared.server.Server.{Server}
use Rattle.sip_location.specs.Registering.{registration_of, to_aor}
use Rattle.model_steps.specs.state.declared.branch.Branch.{Branch}
use Rattle.model_steps.specs.state.declared.open_request.OpenRequest.{OpenRequest}
use Rattle.model_steps.specs.state.declared.proxy_state.ProxyState.{ProxyState}
use Rattle.model_steps.specs.state.State.{has_key, is_provisional}
use Rattle.model_steps.specs.state.Dialogs.{dialog_of}
use Rattle.model_steps.specs.context_model.Branches.{is_accepted}
use Rattle.model_steps.specs.context_model.FoundBranch.{is_branch, branch_in, found_branch}
use Rattle.model_steps.specs.state.Arrival.{Arrival}
use Rattle.model_steps.specs.verdict_model.declared.question.Question.{Question}
use Rattle.model_steps.specs.verdict_model.Verdict.{Registered, Bound, Refused, Verdict, Drop, Respond, Copy, AckOn, Cancel, Answer, InDialog, Challenge, Deny, Send}
use Rattle.model_steps.specs.verdict_model.Verdict.{Register, is_many, response_verdict, top_branch, responding, next_address, within_at, within, ack_verdict, is_full}
use Rattle.model_steps.specs.verdict_model.Verdict.{is_cancelled_by, found_for_cancel, cancel_verdict, is_register, question_of, registered_by, registration_by}
use Rattle.model_steps.specs.verdict_model.Verdict.{is_own_uri, request_targets, decided, policy_verdict, is_outside, core_verdict, checked_verdict, new_verdict, by_open}
use Rattle.model_steps.specs.verdict_model.Verdict.{by_key, by_start, message_verdict, message_in}
use Rattle.model_steps.specs.Effect.{method_of}
use Rattle.model_steps.specs.Step.{Act}
use Rattle.sip_model.specs.Access.{IsNewRequest, IsSaidAt, IsWithin, decision_on, rule_of}
use Rattle.sip_model.proofs.Lists.{all_find, all_there}

-- ---- what each verdict says

-- a response came, whole, to the request of a branch
pub record IsResponding (server : Server) (state : ProxyState) (m : Message) (short : Bool) (r : OpenRequest) (b : Branch) (status : ℕ) : Type 0 where
  pub reason : List ℕ
  pub is_whole : short ≡ false
  pub is_response : m.start ≡ Status status reason
  pub there : Contains state.requests r
  pub in_it : Contains r.branches b
  pub is_for : responding server state.requests m.fields ≡ Some (r, b)

-- a request came that is new and no ACK
pub record IsBrought (state : ProxyState) (m : Message) : Type 0 where
  pub key : TransactionKey
  pub key_is : key_of m ≡ Some key
  pub is_new : find (has_key key) state.requests ≡ None
  pub is_no_ack : bytes_eq (method_of m.start) (codes "ACK") ≡ false

-- a request came whose key is that of an open request
pub record IsCopy (state : ProxyState) (m : Message) (r : OpenRequest) : Type 0 where
  pub key : TransactionKey
  pub key_is : key_of m ≡ Some key
  pub is_open : find (has_key key) state.requests ≡ Some r
  pub there : Contains state.requests r

-- a CANCEL came that is new, and this is the open request that it names, if it names one
pub record IsNaming (state : ProxyState) (a : Arrival) (m : Message) (found : Option OpenRequest) : Type 0 where
  pub brought : IsBrought state m
  pub key : TransactionKey
  pub key_is : key_of m ≡ Some key
  pub is_cancel : bytes_eq (method_of m.start) (codes "CANCEL") ≡ true
  pub found_is : found_for_cancel state key a.from ≡ found
  pub there : IfSome found (Contains state.requests)

-- the status of a final answer, and not 403
abbrev pub IsOtherFinal : ℕ → Type 0
IsOtherFinal status = (is_provisional status ≡ false) × ((status ≡ 403) → ⊥)

-- a request passes every check, and is neither REGISTER nor CANCEL
pub record IsPassing (server : Server) (m : Message) (short : Bool) : Type 0 where
  pub method : List ℕ
  pub uri : List ℕ
  pub version : List ℕ
  pub is_whole : short ≡ false
  pub is_request : m.start ≡ Request method uri version
  pub is_no_register : is_register method ≡ false
  pub is_no_cancel : bytes_eq method (codes "CANCEL") ≡ false
  pub is_valid : refusal_of server.config.own m false ≡ None

-- such a request is in a dialog that is known, which holds the address where it is to go next
pub record IsInside (server : Server) (state : ProxyState) (a : Arrival) (m : Message) (short : Bool) (address : Addr) (id : DialogId) : Type 0 where
  pub passing : IsPassing server m short
  pub has_dialog : dialog_of m ≡ Some id
  pub goes_to : next_address server m ≡ Some address
  pub in_dialog : IsInDialog a.now state.dialogs id address

-- policy was asked about a valid new request outside a dialog, and this is what it decides
pub record IsAsked (server : Server) (state : ProxyState) (a : Arrival) (bytes : List ℕ) (m : Message) (q : Question) (d : Decision) : Type 0 where
  pub method : List ℕ
  pub core : CoreFields
  pub is_new : IsNewRequest server state bytes m method core
  pub question : q ≡ question_of server state.nonces a.now m method core
  pub decision : decision_on server state a.now m method core ≡ d

-- it was let through, and is to be sent to these targets
pub record IsSending (server : Server) (state : ProxyState) (a : Arrival) (bytes : List ℕ) (m : Message) (q : Question) (id : ℕ) (targets : Targets) : Type 0 where
  pub decision : Decision
  pub asked : IsAsked server state a bytes m q decision
  pub rule : rule_of decision ≡ Some id
  pub is_other : is_register asked.method ≡ false
  pub targets_are : targets ≡ request_targets server state.bindings a.now m q decision

-- it is a REGISTER that was let through, and this is what becomes of it
pub record IsRegistering (server : Server) (state : ProxyState) (a : Arrival) (bytes : List ℕ) (m : Message) (q : Question) (id : ℕ) (outcome : Registered) : Type 0 where
  pub decision : Decision
  pub asked : IsAsked server state a bytes m q decision
  pub rule : rule_of decision ≡ Some id
  pub is_one : is_register asked.method ≡ true
  pub outcome_is : outcome ≡ registration_by server state.bindings a.now m asked.core

-- What stands where a verdict is given on a message that the bytes say.
abbrev pub Fits : Server → ProxyState → Arrival → List ℕ → Message → Bool → Verdict → Type 0
Fits server state a bytes m short Drop = Unit {0}
Fits server state a bytes m short (Respond r b status) = IsResponding server state m short r b status
Fits server state a bytes m short (Copy r) = IsCopy state m r
Fits server state a bytes m short (AckOn address id) = IsInside server state a m short address id × (bytes_eq (method_of m.start) (codes "ACK") ≡ true)
Fits server state a bytes m short (Cancel found) = IsNaming state a m found
Fits server state a bytes m short (Answer status extras) = IsBrought state m × IsOtherFinal status
Fits server state a bytes m short (InDialog address id) = IsBrought state m × IsInside server state a m short address id
Fits server state a bytes m short (Challenge q) = IsAsked server state a bytes m q Decision.Challenge
Fits server state a bytes m short (Deny q id) = IsAsked server state a bytes m q (Decision.Deny id)
Fits server state a bytes m short (Send q id targets) = IsSending server state a bytes m q id targets
Fits server state a bytes m short (Register q id outcome) = IsRegistering server state a bytes m q id outcome

-- what a step's datagram says is a request or an ACK of a known dialog
pub within_known : (server : Server) (state : ProxyState) (act : Act) (a : Arrival) (bytes : List ℕ) (m : Message) (short : Bool) (address : Addr) (id : DialogId)
    → IsSaidAt state act a bytes m short → IsInside server state a m short address id → IsWithin server state act a m address
within_known server state act a bytes m short address id said h =
    let passing : IsPassing server m short = h.passing in
    record {
      bytes = bytes;
      method = passing.method;
      uri = passing.uri;
      version = passing.version;
      id = id;
      is_said = subst (λ t. IsSaidAt state act a bytes m t) passing.is_whole said;
      is_request = passing.is_request;
      is_no_register = passing.is_no_register;
      is_no_cancel = passing.is_no_cancel;
      is_valid = passing.is_valid;
      dialog_is = h.has_dialog;
      address_is = h.goes_to;
      is_known = h.in_dialog;
    }

-- ---- options

-- what holds of all that a function may give holds of what it gives
and_then_all : {X Y : Type 0} (P : Y → Type 0) (f : X → Option Y) → ((x : X) → IfSome (f x) P) → (o : Option X) → IfSome (option_and_then f o) P
and_then_all P f h None = tt
and_then_all P f h (Some x) = h x

-- what was read, as it was read
ok_is : {X E : Type 0} (result : Result X E) (x : X) → result_ok result ≡ Some x → result ≡ Ok x
ok_is (Ok y) x e = let same : y ≡ x = cc in ap Ok same
ok_is (Err f) x e = absurd (cc)

-- ---- validation

-- each check refuses by a final status, and none by 403
refusal_other : (own : Own) (m : Message) (short : Bool) → IfSome (refusal_of own m short) (λ refused. IsOtherFinal refused.0)
refusal_other own m short = by_candidate (unchecked_of own m short) where
  by_row : (r : UncheckedRequest) (o : Option Row) → IfSome o (λ row. IsOtherFinal row.status)
      → IfSome {T = ℕ × List ℕ} (option_map (λ row. (row.status, row.extra r)) o) (λ refused. IsOtherFinal refused.0)
  by_row r None h = tt
  by_row r (Some row) h = h

  others : AllByRecursion (λ (row : Row). IsOtherFinal row.status) rows
  others = (
    (refl, λ e. omega arith),
    (
      (refl, λ e. omega arith),
      (
        (refl, λ e. omega arith),
        (
          (refl, λ e. omega arith),
          (
            (refl, λ e. omega arith),
            ((refl, λ e. omega arith), ((refl, λ e. omega arith), tt)),
          ),
        ),
      ),
    ),
  )

  by_candidate : (o : Option UncheckedRequest) → IfSome (option_map_or refusal o None) (λ refused. IsOtherFinal refused.0)
  by_candidate None = tt
  by_candidate (Some r) = by_row r (find (λ row. row.applies r) rows) (all_find (λ (row : Row). IsOtherFinal row.status) (λ row. row.applies r) rows others)

-- a request that passes every check has its whole body
passes_whole : (own : Own) (m : Message) (method uri version : List ℕ) (short : Bool) → m.start ≡ Request method uri version → refusal_of own m short ≡ None
    → short ≡ false
passes_whole own m method uri version true is_request passes =
    let refused : refusal_of own m true ≡ Some (400, []) = ap (λ start. option_map_or refusal (unchecked_by own m.fields true start) None) is_request in
    absurd (cc)
passes_whole own m method uri version false is_request passes = refl

-- ---- responses

-- the branch that a response is to is one of an open request
found_there : (server : Server) (text method : List ℕ) (requests rs : List OpenRequest) → AllByRecursion (Contains requests) rs
    → IfSome (found_branch server text method rs) (λ x. Contains requests x.0 × Contains x.0.branches x.1)
found_there server text method requests [] h = tt
found_there server text method requests (r ∷ rs) h =
    by_branch (branch_in server text method r) (all_find (Contains r.branches) (is_branch server text method r) r.branches (all_there r.branches))
    (found_branch server text method rs)
    (found_there server text method requests rs h.1) where
      by_branch : (o : Option Branch) → IfSome o (Contains r.branches) → (later : Option (OpenRequest × Branch))
          → IfSome later (λ x. Contains requests x.0 × Contains x.0.branches x.1)
          → IfSome {T = OpenRequest × Branch} (option_map_or (λ b. Some (r, b)) o later) (λ x. Contains requests x.0 × Contains x.0.branches x.1)
      by_branch None found later rest = rest
      by_branch (Some b) found later rest = (h.0, found)

-- so is the branch that the fields of a response name
responding_there : (server : Server) (requests : List OpenRequest) (fields : List Field)
    → IfSome (responding server requests fields) (λ x. Contains requests x.0 × Contains x.0.branches x.1)
responding_there server requests fields =
    and_then_all (λ (x : OpenRequest × Branch). Contains requests x.0 × Contains x.0.branches x.1)
    (λ text. option_and_then (λ (cseq : CSeq). found_branch server text cseq.method requests) (result_ok (cseq_in fields)))
    (λ text.
    and_then_all (λ (x : OpenRequest × Branch). Contains requests x.0 × Contains x.0.branches x.1) (λ (cseq : CSeq). found_branch server text cseq.method requests)
    (λ cseq. found_there server text cseq.method requests requests (all_there requests)) (result_ok (cseq_in fields))) (top_branch server fields)

-- ---- registration

-- whether a refusal of a registration is by a final status, and not by 403
abbrev pub RefusesOtherwise : Registered → Type 0
RefusesOtherwise (Bound after) = Unit {0}
RefusesOtherwise (Refused status extras) = IsOtherFinal status

-- a registration that was let through is refused by a final status, and never by 403
pub registration_other : (server : Server) (known : List Binding) (now : ℕ) (m : Message) (core : CoreFields) → RefusesOtherwise (registration_by server known now m core)
registration_other server known now m core =
    by_test (is_own_uri server (request_uri_of server.config.own m) && is_users_address server.config.users server.config.own.domains (to_aor core))
    (registered known (registration_of core m.fields) now) where
      by_test : (t : Bool) (result : Result (List Binding) LocationError) → RefusesOtherwise (cond t (registered_by result) (Refused 404 []))
      by_test true (Ok after) = tt
      by_test true (Err NoMemory) = (refl, λ e. omega arith)
      by_test true (Err BadStar) = (refl, λ e. omega arith)
      by_test true (Err TooBrief) = (refl, λ e. omega arith)
      by_test true (Err OldCSeq) = (refl, λ e. omega arith)
      by_test true (Err TooMany) = (refl, λ e. omega arith)
      by_test false result = (refl, λ e. omega arith)

-- ---- a request

-- a request that passes every check does so with its whole body
passing : (server : Server) (m : Message) (short : Bool) (method uri version : List ℕ) → m.start ≡ Request method uri version → is_register method ≡ false
    → bytes_eq method (codes "CANCEL") ≡ false → refusal_of server.config.own m short ≡ None → IsPassing server m short
passing server m short method uri version is_request no_register no_cancel valid =
    let whole : short ≡ false = passes_whole server.config.own m method uri version short is_request valid in
    record {
      method = method;
      uri = uri;
      version = version;
      is_whole = whole;
      is_request = is_request;
      is_no_register = no_register;
      is_no_cancel = no_cancel;
      is_valid = subst (λ t. refusal_of server.config.own m t ≡ None) whole valid;
    }

-- what is no ACK by its method is none
pub brought : (state : ProxyState) (m : Message) (method uri version : List ℕ) (key : TransactionKey) → m.start ≡ Request method uri version → key_of m ≡ Some key
    → find (has_key key) state.requests ≡ None
    → bytes_eq method (codes "ACK") ≡ false → IsBrought state m
brought state m method uri version key is_request key_is is_new no_ack =
    record { key = key; key_is = key_is; is_new = is_new; is_no_ack = ap (λ (start : Start). bytes_eq (method_of start) (codes "ACK")) is_request ∙ no_ack }

-- an ACK isn't a request of another method
other_method : (method other : List ℕ) → bytes_eq method (codes "ACK") ≡ true → bytes_eq (codes "ACK") other ≡ false → bytes_eq method other ≡ false
other_method method other ack differs = ap (λ text. bytes_eq text other) ((bytes_eq-Decides method (codes "ACK")).0 ack) ∙ differs

module _ (server : Server) (state : ProxyState) (a : Arrival) (bytes : List ℕ) (m : Message) (short : Bool) where
  -- a verdict that is given in a dialog fits there
  within_fits : (on : Addr → DialogId → Verdict) (otherwise : Verdict) → IsPassing server m short
      → ((address : Addr) (id : DialogId) → IsInside server state a m short address id → Fits server state a bytes m short (on address id))
      → Fits server state a bytes m short otherwise → Fits server state a bytes m short (within server state a.now m on otherwise)
  within_fits on otherwise passes fits fits_otherwise = by_options (dialog_of m) refl (next_address server m) refl where
    by_test : (address : Addr) (id : DialogId) → dialog_of m ≡ Some id → next_address server m ≡ Some address → (t : Bool)
        → is_in_dialog a.now state.dialogs id address ≡ t
        → Fits server state a bytes m short (cond t (on address id) otherwise)
    by_test address id named goes true is = fits address id (record {
      passing = passes;
      has_dialog = named;
      goes_to = goes;
      in_dialog = test_says a.now state.dialogs id address is;
    })
    by_test address id named goes false is = fits_otherwise

    by_options : (o : Option DialogId) → dialog_of m ≡ o → (p : Option Addr) → next_address server m ≡ p
        → Fits server state a bytes m short (within_at state a.now on otherwise o p)
    by_options None named p goes = fits_otherwise
    by_options (Some id) named None goes = fits_otherwise
    by_options (Some id) named (Some address) goes = by_test address id named goes (is_in_dialog a.now state.dialogs id address) refl

  -- an ACK that no open request takes
  ack_fits : (method uri version : List ℕ) → m.start ≡ Request method uri version → bytes_eq method (codes "ACK") ≡ true
      → Fits server state a bytes m short (ack_verdict server state a.now m short)
  ack_fits method uri version is_request ack = by_refusal (refusal_of server.config.own m short) refl where
    is_ack : bytes_eq (method_of m.start) (codes "ACK") ≡ true
    is_ack = ap (λ (start : Start). bytes_eq (method_of start) (codes "ACK")) is_request ∙ ack

    by_refusal : (o : Option (ℕ × List ℕ)) → refusal_of server.config.own m short ≡ o
        → Fits server state a bytes m short (cond (is_some o) Drop (within server state a.now m AckOn Drop))
    by_refusal (Some refused) valid = tt
    by_refusal None valid =
        within_fits AckOn Drop
        (passing server m short method uri version is_request (other_method method (codes "REGISTER") ack refl) (other_method method (codes "CANCEL") ack refl) valid)
        (λ address id h. (h, is_ack)) tt

  -- a CANCEL whose key isn't open
  cancel_fits : (method uri version : List ℕ) (key : TransactionKey) → m.start ≡ Request method uri version → bytes_eq method (codes "CANCEL") ≡ true
      → key_of m ≡ Some key
      → IsBrought state m
      → Fits server state a bytes m short (cancel_verdict server state a m short key)
  cancel_fits method uri version key is_request cancel key_is fresh = by_tests (is_bad_request server.config.own m short) (is_full state) where
    same_source : (r : OpenRequest) → Contains state.requests r → (t : Bool) → IfSome (cond t (Some r) None) (Contains state.requests)
    same_source r h true = h
    same_source r h false = tt

    by_found : (o : Option OpenRequest) → IfSome o (Contains state.requests)
        → IfSome (option_and_then (λ (r : OpenRequest). cond (bytes_eq r.request.source.ip a.from.ip) (Some r) None) o) (Contains state.requests)
    by_found None h = tt
    by_found (Some r) h = same_source r h (bytes_eq r.request.source.ip a.from.ip)

    by_tests : (t u : Bool) → Fits server state a bytes m short (cond t (Answer 400 []) (cond u (Answer 503 []) (Cancel (found_for_cancel state key a.from))))
    by_tests true u = (fresh, (refl, λ e. omega arith))
    by_tests false true = (fresh, (refl, λ e. omega arith))
    by_tests false false =
        record {
          brought = fresh;
          key = key;
          key_is = key_is;
          is_cancel = ap (λ (start : Start). bytes_eq (method_of start) (codes "CANCEL")) is_request ∙ cancel;
          found_is = refl;
          there = by_found (find (is_cancelled_by key) state.requests) (all_find (Contains state.requests) (is_cancelled_by key) state.requests
              (all_there state.requests));
        }

  -- what policy decides fits a valid new request
  policy_fits : (method : List ℕ) (core : CoreFields) → IsNewRequest server state bytes m method core
      → Fits server state a bytes m short (policy_verdict server state a.now m method core)
  policy_fits method core is_new = by_decision (decision_on server state a.now m method core) refl where
    question : Question
    question = question_of server state.nonces a.now m method core

    let_fits : (d : Decision) (id : ℕ) → rule_of d ≡ Some id → decision_on server state a.now m method core ≡ d → (t : Bool) → is_register method ≡ t
        → Fits server state a bytes m short (cond t (Register question id (registration_by server state.bindings a.now m core))
        (Send question id (request_targets server state.bindings a.now m question d)))
    let_fits d id rule is true t_is =
        record {
          decision = d;
          asked = record { method = method; core = core; is_new = is_new; question = refl; decision = is };
          rule = rule;
          is_one = t_is;
          outcome_is = refl;
        }
    let_fits d id rule is false t_is =
        record {
          decision = d;
          asked = record { method = method; core = core; is_new = is_new; question = refl; decision = is };
          rule = rule;
          is_other = t_is;
          targets_are = refl;
        }

    by_decision : (d : Decision) → decision_on server state a.now m method core ≡ d →
        Fits server state a bytes m short (decided server state a.now m method core question d)
    by_decision Decision.Challenge is = record { method = method; core = core; is_new = is_new; question = refl; decision = is }
    by_decision (Decision.Deny id) is = record { method = method; core = core; is_new = is_new; question = refl; decision = is }
    by_decision (Decision.Allow id) is = let_fits (Decision.Allow id) id refl is (is_register method) refl
    by_decision (Decision.Via id hop) is = let_fits (Decision.Via id hop) id refl is (is_register method) refl

-- a request is valid, new and outside a dialog
new_request : (server : Server) (state : ProxyState) (bytes : List ℕ) (m : Message) (method uri version : List ℕ) (short : Bool) (key : TransactionKey)
    (core : CoreFields)
    → message_in (reading_of bytes) ≡ Some (m, short) → m.start ≡ Request method uri version → key_of m ≡ Some key → find (has_key key) state.requests ≡ None
    → bytes_eq method (codes "ACK") ≡ false → bytes_eq method (codes "CANCEL") ≡ false → refusal_of server.config.own m short ≡ None → is_full state ≡ false
    → result_ok (core_of m) ≡ Some core → is_outside method core ≡ true → IsNewRequest server state bytes m method core
new_request server state bytes m method uri version short key core said is_request key_is is_new no_ack no_cancel valid room core_is outside =
    let whole : short ≡ false = passes_whole server.config.own m method uri version short is_request valid in
    record {
      uri = uri;
      version = version;
      key = key;
      says = said ∙ ap (λ t. Some (m, t)) whole;
      is_request = is_request;
      key_is = key_is;
      is_new = is_new;
      is_no_ack = no_ack;
      is_no_cancel = no_cancel;
      is_valid = subst (λ t. refusal_of server.config.own m t ≡ None) whole valid;
      has_room = room;
      core_is = ok_is (core_of m) core core_is;
      is_outside_dialog = outside;
    }

module _ (server : Server) (state : ProxyState) (a : Arrival) (bytes : List ℕ) (m : Message) (short : Bool) (said : message_in (reading_of bytes) ≡ Some (m, short)) where
  -- a request that is neither ACK nor CANCEL, whose key isn't open
  checked_fits : (method uri version : List ℕ) (key : TransactionKey) → m.start ≡ Request method uri version → key_of m ≡ Some key
      → find (has_key key) state.requests ≡ None
      → bytes_eq method (codes "ACK") ≡ false → bytes_eq method (codes "CANCEL") ≡ false
      → Fits server state a bytes m short (checked_verdict server state a.now m method (refusal_of server.config.own m short))
  checked_fits method uri version key is_request key_is is_new no_ack no_cancel = by_refusal (refusal_of server.config.own m short) refl
      (refusal_other server.config.own m short) where
        fresh : IsBrought state m
        fresh = brought state m method uri version key is_request key_is is_new no_ack

        inside : (core : CoreFields) → is_outside method core ≡ false → is_register method ≡ false
        inside core outside = by_tests (is_register method) (not (is_some (id_of core))) outside where
          by_tests : (t u : Bool) → (t || u) ≡ false → t ≡ false
          by_tests true u e = e
          by_tests false u e = refl

        outside_fits : (core : CoreFields) → refusal_of server.config.own m short ≡ None → is_full state ≡ false → result_ok (core_of m) ≡ Some core → (t : Bool)
            → is_outside method core ≡ t
            → Fits server state a bytes m short (cond t (policy_verdict server state a.now m method core) (within server state a.now m InDialog (Answer 481 [])))
        outside_fits core valid room core_is true outside =
            policy_fits server state a bytes m short method core (new_request server state bytes m method uri version short key core said is_request key_is is_new no_ack
            no_cancel valid room core_is outside)
        outside_fits core valid room core_is false outside =
            within_fits server state a bytes m short InDialog (Answer 481 []) (passing server m short method uri version is_request (inside core outside) no_cancel valid)
            (λ address id h. (fresh, h))
            (fresh, (refl, λ e. omega arith))

        by_core : refusal_of server.config.own m short ≡ None → is_full state ≡ false → (o : Option CoreFields) → result_ok (core_of m) ≡ o
            → Fits server state a bytes m short (core_verdict server state a.now m method o)
        by_core valid room None core_is = tt
        by_core valid room (Some core) core_is = outside_fits core valid room core_is (is_outside method core) refl

        by_room : refusal_of server.config.own m short ≡ None → (t : Bool) → is_full state ≡ t
            → Fits server state a bytes m short (cond t (Answer 503 []) (core_verdict server state a.now m method (result_ok (core_of m))))
        by_room valid true room = (fresh, (refl, λ e. omega arith))
        by_room valid false room = by_core valid room (result_ok (core_of m)) refl

        by_refusal : (o : Option (ℕ × List ℕ)) → refusal_of server.config.own m short ≡ o → IfSome o (λ refused. IsOtherFinal refused.0)
            → Fits server state a bytes m short (checked_verdict server state a.now m method o)
        by_refusal None valid other = by_room valid (is_full state) refl
        by_refusal (Some refused) valid other = (fresh, other)

  -- a request whose key isn't open
  new_fits : (method uri version : List ℕ) (key : TransactionKey) → m.start ≡ Request method uri version → key_of m ≡ Some key → find (has_key key) state.requests ≡ None
      → Fits server state a bytes m short (new_verdict server state a m short method key)
  new_fits method uri version key is_request key_is is_new = by_tests (bytes_eq method (codes "ACK")) refl (bytes_eq method (codes "CANCEL")) refl where
    by_tests : (t : Bool) → bytes_eq method (codes "ACK") ≡ t → (u : Bool) → bytes_eq method (codes "CANCEL") ≡ u
        → Fits server state a bytes m short (cond t (ack_verdict server state a.now m short)
        (cond u (cancel_verdict server state a m short key) (checked_verdict server state a.now m method (refusal_of server.config.own m short))))
    by_tests true ack u cancel = ack_fits server state a bytes m short method uri version is_request ack
    by_tests false ack true cancel = cancel_fits server state a bytes m short method uri version key is_request cancel key_is
        (brought state m method uri version key is_request key_is is_new ack)
    by_tests false ack false cancel = checked_fits method uri version key is_request key_is is_new ack cancel

  -- a request
  request_fits : (method uri version : List ℕ) → m.start ≡ Request method uri version
      → Fits server state a bytes m short (by_key server state a m short method (key_of m))
  request_fits method uri version is_request = by_option (key_of m) refl where
    copy_fits : (r : OpenRequest) → IsCopy state m r → (t : Bool) → bytes_eq method (codes "ACK") ≡ t → (u : Bool)
        → Fits server state a bytes m short (cond (t && u) (ack_verdict server state a.now m short) (Copy r))
    copy_fits r copy true ack true = ack_fits server state a bytes m short method uri version is_request ack
    copy_fits r copy true ack false = copy
    copy_fits r copy false ack u = copy

    by_found : (key : TransactionKey) → key_of m ≡ Some key → (o : Option OpenRequest) → find (has_key key) state.requests ≡ o → IfSome o (Contains state.requests)
        → Fits server state a bytes m short (by_open server state a m short method key o)
    by_found key key_is None is there = new_fits method uri version key is_request key_is is
    by_found key key_is (Some r) is there = copy_fits r (record { key = key; key_is = key_is; is_open = is; there = there }) (bytes_eq method (codes "ACK")) refl
        (is_accepted r)

    by_option : (o : Option TransactionKey) → key_of m ≡ o → Fits server state a bytes m short (by_key server state a m short method o)
    by_option None key_is = tt
    by_option (Some key) key_is = by_found key key_is (find (has_key key) state.requests) refl
        (all_find (Contains state.requests) (has_key key) state.requests (all_there state.requests))

  -- a response
  response_fits : (code : ℕ) (reason : List ℕ) → m.start ≡ Status code reason → Fits server state a bytes m short (by_start server state a m short (Status code reason))
  response_fits code reason is_response = by_short short refl where
    by_test : short ≡ false → (x : OpenRequest × Branch) → responding server state.requests m.fields ≡ Some x → Contains state.requests x.0 × Contains x.0.branches x.1
        → (t : Bool)
        → Fits server state a bytes m short (cond t (Respond x.0 x.1 code) Drop)
    by_test whole x e there true = record { reason = reason; is_whole = whole; is_response = is_response; there = there.0; in_it = there.1; is_for = e }
    by_test whole x e there false = tt

    by_found : short ≡ false → (o : Option (OpenRequest × Branch)) → responding server state.requests m.fields ≡ o
        → IfSome o (λ x. Contains state.requests x.0 × Contains x.0.branches x.1)
        → Fits server state a bytes m short (response_verdict m.fields code o)
    by_found whole None e there = tt
    by_found whole (Some x) e there = by_test whole x e there (x.1.is_cancel || is_many (values_of Name.Via m.fields))

    by_short : (t : Bool) → short ≡ t → Fits server state a bytes m short (cond t Drop (response_verdict m.fields code (responding server state.requests m.fields)))
    by_short true whole = tt
    by_short false whole = by_found whole (responding server state.requests m.fields) refl (responding_there server state.requests m.fields)

  -- every verdict on a message that the bytes say fits
  pub message_fits : Fits server state a bytes m short (message_verdict server state a m short)
  message_fits = by_kind m.start refl where
    by_kind : (start : Start) → m.start ≡ start → Fits server state a bytes m short (by_start server state a m short start)
    by_kind (Request method uri version) is = request_fits method uri version is
    by_kind (Status code reason) is = response_fits code reason is
