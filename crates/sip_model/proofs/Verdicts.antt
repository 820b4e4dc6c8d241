-- What a verdict on a message is about: open requests that are there, or a request whose key isn't open.
use Rattle.std.proofs.Common.{◌≡◌, inl, inr, ℕ, Bool, true, false, cond, ◌&&◌, List, [], ◌∷◌, codes, find, Option, Some, None, option_and_then, is_some, refl, sym, ap}
use Rattle.std.proofs.Common.{subst, count_by, bytes_eq}
use Rattle.std.specs.Option.{option_map_or, unwrap_or}
use Rattle.std.specs.Result.{result_ok}
use Rattle.sip_uri.specs.declared.uri.Uri.{Uri}
use Rattle.sip_uri.specs.declared.aor.Aor.{Aor}
use Rattle.sip_message_fields.specs.declared.field.Field.{Field}
use Rattle.sip_message_form.specs.declared.message.Start.{Start}
use Rattle.sip_message_form.specs.declared.message.Start.TheVariants.{Request, Status}
use Rattle.sip_message_form.specs.declared.message.Message.{Message}
use Rattle.sip_transaction_table.specs.declared.key.TransactionKey.{TransactionKey}
use Rattle.sip_header.specs.declared.core_fields.CoreFields.{CoreFields}
use Rattle.sip_transaction_table.specs.Key.{key_of}
use Rattle.sip_header.specs.CoreFields.{core_of, cseq_in}
use Rattle.sip_header.specs.declared.cseq.CSeq.{CSeq}
use Rattle.sip_route.specs.Way.{request_uri_of}
use Rattle.sip_uri.specs.declared.addr.Addr.{Addr}
use Rattle.sip_hops.specs.declared.host_address.HostAddress.{HostAddress}
use Rattle.sip_hops.specs.Hop.{hop_of}
use Rattle.sip_policy.specs.declared.decision.Decision.{Decision}
use Rattle.sip_location.specs.declared.binding.Binding.{Binding}
use Rattle.sip_location.specs.Binding.{contacts_of}
use Rattle.sip_targets.specs.declared.target.Target.{Target}
use Rattle.sip_targets.specs.declared.targets.Targets.{Targets}
use Rattle.sip_targets.specs.Targets.{targets_at, target_by}
use Rattle.sip_validate.specs.Refusal.{refusal_of, is_bad_request}
use Rattle.sip_dialog.specs.declared.dialog.DialogId.{DialogId}
use Rattle.sip_dialog.specs.Dialogs.{is_in_dialog}
use Rattle.sip_policy.specs.User.{is_users_address}
use Rattle.model_steps.specs.state.declared.server.Server.{Server}
use Rattle.model_steps.specs.state.declared.proxy_state.ProxyState.{ProxyState}
use Rattle.model_steps.specs.state.declared.open_request.OpenRequest.{OpenRequest}
use Rattle.model_steps.specs.state.declared.branch.Branch.{Branch}
use Rattle.model_steps.specs.state.State.{has_key}
use Rattle.model_steps.specs.state.Dialogs.{dialog_of}
use Rattle.model_steps.specs.context_model.Branches.{is_accepted}
use Rattle.model_steps.specs.context_model.FoundBranch.{is_branch, branch_in, found_branch}
use Rattle.model_steps.specs.state.Arrival.{Arrival}
use Rattle.model_steps.specs.verdict_model.declared.question.Question.{Question}
use Rattle.model_steps.specs.verdict_model.Verdict.{Verdict, Drop, Respond, Copy, AckOn, Cancel, Answer, InDialog, Challenge, Deny, Send, Register, response_verdict}
use Rattle.model_steps.specs.verdict_model.Verdict.{responding, within_at, within, ack_verdict, is_full, is_cancelled_by, found_for_cancel, cancel_verdict, targets_by}
use Rattle.model_steps.specs.verdict_model.Verdict.{request_targets, let_through, decided, policy_verdict, question_of, answer_of, is_register, is_outside}
use Rattle.model_steps.specs.verdict_model.Verdict.{registration_by, core_verdict, checked_verdict, new_verdict, by_open, by_key, by_start, message_verdict, top_branch}
use Rattle.model_steps.specs.verdict_model.Verdict.{next_address}
use Rattle.model_steps.specs.context_model.Opening.{request_key}
use Rattle.sip_model.proofs.Places.{IsIn, found_in, none_found}

-- ---- what is said of a verdict

-- no open request has the key of a message
abbrev pub IsNewKey : List OpenRequest → Message → Type 0
IsNewKey requests m = count_by (has_key (request_key m)) requests ≡ 0

-- a request that is named is open
abbrev pub IsThere : List OpenRequest → Option OpenRequest → Type 0
IsThere requests None = Unit {0}
IsThere requests (Some r) = IsIn r requests

-- a list of targets isn't empty
abbrev pub IsThereOne : List Target → Type 0
IsThereOne [] = ⊥
IsThereOne (t ∷ ts) = Unit {0}

-- targets that a request is sent to are at least one
abbrev pub AreNotEmpty : Targets → Type 0
AreNotEmpty Targets.NotFound = Unit {0}
AreNotEmpty Targets.Unavailable = Unit {0}
AreNotEmpty (Targets.Bindings targets) = IsThereOne targets
AreNotEmpty (Targets.Hop uri address) = Unit {0}

-- what a verdict is about, by its kind
abbrev pub Fits : List OpenRequest → Message → Verdict → Type 0
Fits requests m Drop = Unit {0}
Fits requests m (Respond r b status) = IsIn r requests × IsIn b r.branches
Fits requests m (Copy r) = IsIn r requests
Fits requests m (AckOn address id) = Unit {0}
Fits requests m (Cancel found) = IsNewKey requests m × IsThere requests found
Fits requests m (Answer status extras) = IsNewKey requests m
Fits requests m (InDialog address id) = IsNewKey requests m
Fits requests m (Challenge q) = IsNewKey requests m
Fits requests m (Deny q id) = IsNewKey requests m
Fits requests m (Send q id targets) = IsNewKey requests m × AreNotEmpty targets
Fits requests m (Register q id outcome) = IsNewKey requests m

-- one of two verdicts, by a test
fits_either : (requests : List OpenRequest) (m : Message) (t : Bool) (v w : Verdict) → Fits requests m v → Fits requests m w → Fits requests m (cond t v w)
fits_either requests m true v w first second = first
fits_either requests m false v w first second = second

-- ---- a response

-- a branch that is found is one of an open request
abbrev pub IsFound : List OpenRequest → Option (OpenRequest × Branch) → Type 0
IsFound requests None = Unit {0}
IsFound requests (Some x) = IsIn x.0 requests × IsIn x.1 x.0.branches

-- it is so among more requests
later_found : (r : OpenRequest) (rs : List OpenRequest) (o : Option (OpenRequest × Branch)) → IsFound rs o → IsFound (r ∷ rs) o
later_found r rs None h = tt
later_found r rs (Some x) h = (inr h.0, h.1)

-- the first request that has one
found_by : (r : OpenRequest) (rs : List OpenRequest) (here : Option Branch) (rest : Option (OpenRequest × Branch)) → ((b : Branch) → here ≡ Some b → IsIn b r.branches)
    → IsFound rs rest
    → IsFound (r ∷ rs) (option_map_or (λ b. Some (r, b)) here rest)
found_by r rs None rest is_branch_of h = later_found r rs rest h
found_by r rs (Some b) rest is_branch_of h = (inl refl, is_branch_of b refl)

-- the branch that a response names is one of an open request
found_branch_is : (server : Server) (text method : List ℕ) (rs : List OpenRequest) → IsFound rs (found_branch server text method rs)
found_branch_is server text method [] = tt
found_branch_is server text method (r ∷ rs) =
    found_by r rs (branch_in server text method r) (found_branch server text method rs) (λ b e. (found_in (is_branch server text method r) r.branches b e).0)
    (found_branch_is server text method rs)

-- by the method in CSeq
found_at : (server : Server) (rs : List OpenRequest) (text : List ℕ) (cseq : Option CSeq) → IsFound rs (option_and_then (λ c. found_branch server text c.method rs) cseq)
found_at server rs text None = tt
found_at server rs text (Some c) = found_branch_is server text c.method rs

-- by the branch of the top Via
pub found_for : (server : Server) (rs : List OpenRequest) (text : Option (List ℕ)) (cseq : Option CSeq)
    → IsFound rs (option_and_then (λ t. option_and_then (λ c. found_branch server t c.method rs) cseq) text)
found_for server rs None cseq = tt
found_for server rs (Some text) cseq = found_at server rs text cseq

-- a response is for the branch that was found
response_fits : (requests : List OpenRequest) (m : Message) (fields : List Field) (status : ℕ) (o : Option (OpenRequest × Branch)) → IsFound requests o
    → Fits requests m (response_verdict fields status o)
response_fits requests m fields status None h = tt
response_fits requests m fields status (Some x) h = fits_either requests m _ (Respond x.0 x.1 status) Drop h tt

-- ---- within a dialog

-- a request within a dialog, or none
within_fits : (state : ProxyState) (m : Message) (now : ℕ) (on : Addr → DialogId → Verdict) (none : Verdict) (id : Option DialogId) (address : Option Addr)
    → ((a : Addr) (i : DialogId) → Fits state.requests m (on a i)) → Fits state.requests m none → Fits state.requests m (within_at state now on none id address)
within_fits state m now on none None address there not_there = not_there
within_fits state m now on none (Some id) None there not_there = not_there
within_fits state m now on none (Some id) (Some address) there not_there = fits_either state.requests m (is_in_dialog now state.dialogs id address) (on address id) none
    (there address id) not_there

-- an ACK opens nothing
ack_fits : (server : Server) (state : ProxyState) (now : ℕ) (m : Message) (short : Bool) → Fits state.requests m (ack_verdict server state now m short)
ack_fits server state now m short =
    fits_either state.requests m (is_some (refusal_of server.config.own m short)) Drop (within server state now m AckOn Drop) tt
    (within_fits state m now AckOn Drop (dialog_of m) (next_address server m) (λ a i. tt) tt)

-- ---- CANCEL

-- a request that is named only if a test passes
there_if : (requests : List OpenRequest) (r : OpenRequest) (t : Bool) → IsIn r requests → IsThere requests (cond t (Some r) None)
there_if requests r true h = h
there_if requests r false h = tt

-- the same of one that may have been found
there_after : (requests : List OpenRequest) (test : OpenRequest → Bool) (o : Option OpenRequest) → ((r : OpenRequest) → o ≡ Some r → IsIn r requests)
    → IsThere requests (option_and_then (λ r. cond (test r) (Some r) None) o)
there_after requests test None h = tt
there_after requests test (Some r) h = there_if requests r (test r) (h r refl)

-- a CANCEL
cancel_fits : (server : Server) (state : ProxyState) (a : Arrival) (m : Message) (short : Bool) (key : TransactionKey) → IsNewKey state.requests m
    → Fits state.requests m (cancel_verdict server state a m short key)
cancel_fits server state a m short key is_new =
    fits_either state.requests m (is_bad_request server.config.own m short) (Answer 400 []) _ is_new
    (fits_either state.requests m (is_full state) (Answer 503 []) (Cancel (found_for_cancel state key a.from)) is_new (
      is_new,
      there_after state.requests (λ r. bytes_eq r.request.source.ip a.from.ip) (find (is_cancelled_by key) state.requests)
          (λ r e. (found_in (is_cancelled_by key) state.requests r e).0),
    ))

-- ---- policy

-- one of two targets, by a test
not_empty_either : (t : Bool) (v w : Targets) → AreNotEmpty v → AreNotEmpty w → AreNotEmpty (cond t v w)
not_empty_either true v w first second = first
not_empty_either false v w first second = second

-- each live contact is a target
at_contacts : (addresses : List HostAddress) (contacts : List Uri) → AreNotEmpty (targets_at addresses contacts)
at_contacts addresses [] = tt
at_contacts addresses (contact ∷ contacts) = tt

-- a hop is a target
by_hop : (uri : Uri) (address : Option Addr) → AreNotEmpty (target_by uri address)
by_hop uri None = tt
by_hop uri (Some address) = tt

-- a request that was let through has a target, or is answered
allowed_targets : (server : Server) (rows : List Binding) (now : ℕ) (target : Aor) (id : ℕ) (uri : Option Uri)
    → AreNotEmpty (targets_by server rows now target (Decision.Allow id) uri)
allowed_targets server rows now target id None = tt
allowed_targets server rows now target id (Some uri) =
    not_empty_either (is_users_address server.config.users server.config.own.domains target) (targets_at server.config.addresses (contacts_of rows now target))
    Targets.NotFound (at_contacts server.config.addresses (contacts_of rows now target)) tt

-- a request that goes by a hop has a target, or is answered
hop_targets : (server : Server) (rows : List Binding) (now : ℕ) (target : Aor) (id : ℕ) (hop : ℕ) (uri : Option Uri)
    → AreNotEmpty (targets_by server rows now target (Decision.Via id hop) uri)
hop_targets server rows now target id hop None = tt
hop_targets server rows now target id hop (Some uri) = by_hop uri (hop_of server.config.hops hop)

-- a request that was let through
let_through_fits : (server : Server) (state : ProxyState) (now : ℕ) (m : Message) (method : List ℕ) (core : CoreFields) (q : Question) (id : ℕ) (d : Decision)
    → IsNewKey state.requests m
    → AreNotEmpty (request_targets server state.bindings now m q d) → Fits state.requests m (let_through server state now m method core q id d)
let_through_fits server state now m method core q id d is_new some =
    fits_either state.requests m (is_register method) (Register q id (registration_by server state.bindings now m core))
    (Send q id (request_targets server state.bindings now m q d)) is_new (is_new, some)

-- what policy decides
decided_fits : (server : Server) (state : ProxyState) (now : ℕ) (m : Message) (method : List ℕ) (core : CoreFields) (q : Question) (d : Decision)
    → IsNewKey state.requests m → Fits state.requests m (decided server state now m method core q d)
decided_fits server state now m method core q Decision.Challenge is_new = is_new
decided_fits server state now m method core q (Decision.Deny id) is_new = is_new
decided_fits server state now m method core q (Decision.Allow id) is_new =
    let_through_fits server state now m method core q id (Decision.Allow id) is_new (allowed_targets server state.bindings now q.target id
    (request_uri_of server.config.own m))
decided_fits server state now m method core q (Decision.Via id hop) is_new =
    let_through_fits server state now m method core q id (Decision.Via id hop) is_new
    (hop_targets server state.bindings now q.target id hop (request_uri_of server.config.own m))

-- ---- a request

-- a request with core fields
core_fits : (server : Server) (state : ProxyState) (now : ℕ) (m : Message) (method : List ℕ) (core : Option CoreFields) → IsNewKey state.requests m
    → Fits state.requests m (core_verdict server state now m method core)
core_fits server state now m method None is_new = tt
core_fits server state now m method (Some core) is_new =
    fits_either state.requests m (is_outside method core) (policy_verdict server state now m method core) (within server state now m InDialog (Answer 481 []))
    (decided_fits server state now m method core (question_of server state.nonces now m method core)
    (answer_of server (question_of server state.nonces now m method core)) is_new)
    (within_fits state m now InDialog (Answer 481 []) (dialog_of m) (next_address server m) (λ a i. is_new) is_new)

-- a request that was checked
checked_fits : (server : Server) (state : ProxyState) (now : ℕ) (m : Message) (method : List ℕ) (refusal : Option (ℕ × List ℕ)) → IsNewKey state.requests m
    → Fits state.requests m (checked_verdict server state now m method refusal)
checked_fits server state now m method (Some refusal) is_new = is_new
checked_fits server state now m method None is_new =
    fits_either state.requests m (is_full state) (Answer 503 []) (core_verdict server state now m method (result_ok (core_of m))) is_new
    (core_fits server state now m method (result_ok (core_of m)) is_new)

-- a request whose key isn't open
new_fits : (server : Server) (state : ProxyState) (a : Arrival) (m : Message) (short : Bool) (method : List ℕ) (key : TransactionKey) → IsNewKey state.requests m
    → Fits state.requests m (new_verdict server state a m short method key)
new_fits server state a m short method key is_new =
    fits_either state.requests m (bytes_eq method (codes "ACK")) (ack_verdict server state a.now m short) _ (ack_fits server state a.now m short)
    (fits_either state.requests m (bytes_eq method (codes "CANCEL")) (cancel_verdict server state a m short key)
    (checked_verdict server state a.now m method (refusal_of server.config.own m short))
    (cancel_fits server state a m short key is_new) (checked_fits server state a.now m method (refusal_of server.config.own m short) is_new))

-- a request whose key may be open
open_fits : (server : Server) (state : ProxyState) (a : Arrival) (m : Message) (short : Bool) (method : List ℕ) (key : TransactionKey) (o : Option OpenRequest)
    → find (has_key key) state.requests ≡ o → request_key m ≡ key → Fits state.requests m (by_open server state a m short method key o)
open_fits server state a m short method key (Some r) e is =
    fits_either state.requests m (bytes_eq method (codes "ACK") && is_accepted r) (ack_verdict server state a.now m short) (Copy r) (ack_fits server state a.now m short)
    (found_in (has_key key) state.requests r e).0
open_fits server state a m short method key None e is =
    let is_new : IsNewKey state.requests m = subst (λ k. count_by (has_key k) state.requests ≡ 0) (sym is) (none_found (has_key key) state.requests e) in
    new_fits server state a m short method key is_new

-- a request that may have a key
key_fits : (server : Server) (state : ProxyState) (a : Arrival) (m : Message) (short : Bool) (method : List ℕ) (key : Option TransactionKey) → key_of m ≡ key
    → Fits state.requests m (by_key server state a m short method key)
key_fits server state a m short method None e = tt
key_fits server state a m short method (Some key) e =
    open_fits server state a m short method key (find (has_key key) state.requests) refl
    (ap (λ k. unwrap_or k (record { branch = []; host = []; port = 0; method = [] })) e)

-- a request or a response
start_fits : (server : Server) (state : ProxyState) (a : Arrival) (m : Message) (short : Bool) (start : Start)
    → Fits state.requests m (by_start server state a m short start)
start_fits server state a m short (Status code reason) =
    fits_either state.requests m short Drop (response_verdict m.fields code (responding server state.requests m.fields)) tt
    (response_fits state.requests m m.fields code (responding server state.requests m.fields)
    (found_for server state.requests (top_branch server m.fields) (result_ok (cseq_in m.fields))))
start_fits server state a m short (Request method uri version) = key_fits server state a m short method (key_of m) refl

-- a verdict is about requests that are there, or about a request whose key is new
pub verdict_fits : (server : Server) (state : ProxyState) (a : Arrival) (m : Message) (short : Bool) → Fits state.requests m (message_verdict server state a m short)
verdict_fits server state a m short = start_fits server state a m short m.start
