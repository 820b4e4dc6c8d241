-- The counts with which the nonce of a word is used in a history rise, where the word is issued once.
use Rattle.std.proofs.Common.{◌≡◌, ℕ, ◌+◌, ◌≤◌, Bool, true, false, cond, List, [], ◌∷◌, ◌++◌, find, Option, Some, None, refl, sym, subst, ◌∙◌, arith}
use Rattle.std.specs.Prelude.{◌&&◌, is_some, option_map}
use Rattle.std.specs.Option.{option_map_or, option_and_then}
use Rattle.sip_message_form.specs.declared.message.Message.{Message}
use Rattle.sip_message_form.specs.declared.message.Start.{Start}
use Rattle.sip_message_form.specs.declared.message.Start.TheVariants.{Request, Status}
use Rattle.sip_message.specs.Reading.{reading_of}
use Rattle.sip_header.specs.declared.core_fields.CoreFields.{CoreFields}
use Rattle.sip_policy.specs.declared.decision.Decision.{Decision}
use Rattle.sip_policy.specs.declared.user.User.{User}
use Rattle.sip_policy.specs.User.{is_named}
use Rattle.sip_digest.specs.declared.nonces.Nonce.{Nonce}
use Rattle.sip_digest.specs.declared.nonces.Worth.{Worth}
use Rattle.sip_digest.specs.declared.nonces.Worth.TheVariants as Worths
use Rattle.sip_digest.specs.Credential.{Credential, count_of}
use Rattle.sip_digest.specs.Nonces.{worth_of}
use Rattle.sip_message_fields.specs.Values.{values_of}
use Rattle.sip_message_fields.specs.declared.field.Field.{Field}
use Rattle.sip_auth.specs.Proof as Proofs
use Rattle.sip_auth.specs.Proof.{Claim, proof_of, proof_in, proof_from, proof_by, proof_with_key, key_of, claim_of, first_for_realm, credentials_field, is_equal_uri}
use Rattle.sip_event.specs.declared.event.Event.TheVariants.{Datagram, Time, Fault}
use Rattle.model_steps.specs.state.declared.server.Server.{Server}
use Rattle.model_steps.specs.state.declared.proxy_state.ProxyState.{ProxyState}
use Rattle.model_steps.specs.state.State.{first_state}
use Rattle.sip_targets.specs.declared.targets.Targets.{Targets}
use Rattle.model_steps.specs.state.Arrival.{Arrival}
use Rattle.model_steps.specs.verdict_model.declared.question.Question.{Question}
use Rattle.model_steps.specs.verdict_model.Verdict.{Registered, Verdict, Drop, Respond, Copy, AckOn, Cancel, Answer, InDialog, Challenge, Deny, Send, Register}
use Rattle.model_steps.specs.verdict_model.Verdict.{is_register, question_of, answer_of, registration_by, request_targets, decided, message_verdict, message_in}
use Rattle.model_steps.specs.verdict_model.Verdict.{verdict_in}
use Rattle.model_steps.specs.Step.{Act, Given, Passing, arrival_of}
use Rattle.sip_model.specs.Run.{Link, under, IsChain}
use Rattle.sip_model.specs.Histories.{asked_in, Judged, judged_at, nonces_by, issues_by, issues_of, right_count, right_counts, AreFalling}
use Rattle.sip_model.proofs.Judging.{is_by_policy, judged, judged_verdict}
use Rattle.sip_model.proofs.Followed.{step_nonces}
use Rattle.sip_model.proofs.NonceUses.{AreKept, nothing_kept, used_kept, issued_kept}

-- ---- what a proof rests on

-- a proof of a claim is right by a credential that is
right_by : (nonces : List Nonce) (now : ℕ) (claim : Claim) (key : List ℕ) (worth : Worth) (name : List ℕ) (c : Credential)
    → worth_of nonces key claim.credential now ≡ worth
    → Proofs.judged claim worth ≡ Proofs.Right name c → (a1 : List ℕ) × (worth_of nonces a1 c now ≡ Worths.Right)
right_by nonces now claim key Worths.Right name c is e =
    let plain : Proofs.Right claim.name claim.credential ≡ Proofs.Right name c = e in
    let same : claim.credential ≡ c = cc in (key, subst (λ (x : Credential). worth_of nonces key x now ≡ Worths.Right) same is)
right_by nonces now claim key Worths.Stale name c is e = absurd (cc)
right_by nonces now claim key Worths.Wrong name c is e = absurd (cc)

-- by the key of its algorithm, if the user has one
right_by_key : (nonces : List Nonce) (now : ℕ) (claim : Claim) (key : Option (List ℕ)) (name : List ℕ) (c : Credential)
    → proof_with_key nonces now claim key ≡ Proofs.Right name c
    → (a1 : List ℕ) × (worth_of nonces a1 c now ≡ Worths.Right)
right_by_key nonces now claim None name c e = absurd (cc)
right_by_key nonces now claim (Some key) name c e = right_by nonces now claim key (worth_of nonces key claim.credential now) name c refl e

right_by_user : (nonces : List Nonce) (now : ℕ) (claim : Claim) (user : Option User) (name : List ℕ) (c : Credential)
    → proof_by nonces now claim user ≡ Proofs.Right name c
    → (a1 : List ℕ) × (worth_of nonces a1 c now ≡ Worths.Right)
right_by_user nonces now claim None name c e = absurd (cc)
right_by_user nonces now claim (Some user) name c e = right_by_key nonces now claim (key_of user claim.credential.algorithm) name c e

right_from : (users : List User) (nonces : List Nonce) (now : ℕ) (uri : List ℕ) (claim : Option Claim) (name : List ℕ) (c : Credential)
    → proof_from users nonces now uri claim ≡ Proofs.Right name c
    → (a1 : List ℕ) × (worth_of nonces a1 c now ≡ Worths.Right)
right_from users nonces now uri None name c e = absurd (cc)
right_from users nonces now uri (Some claim) name c e = by_test (is_some (count_of claim.credential) && is_equal_uri claim.credential.uri uri) e where
  by_test : (t : Bool) → cond t (proof_by nonces now claim (find (is_named claim.name) users)) Proofs.Wrong ≡ Proofs.Right name c
      → (a1 : List ℕ) × (worth_of nonces a1 c now ≡ Worths.Right)
  by_test true found = right_by_user nonces now claim (find (is_named claim.name) users) name c found
  by_test false found = absurd (cc)

right_in : (realm : List ℕ) (users : List User) (nonces : List Nonce) (now : ℕ) (fields : List Field) (start : Start) (name : List ℕ) (c : Credential)
    → proof_in realm users nonces now fields start ≡ Proofs.Right name c → (a1 : List ℕ) × (worth_of nonces a1 c now ≡ Worths.Right)
right_in realm users nonces now fields (Request method uri version) name c e =
    right_from users nonces now uri (option_and_then (claim_of method) (first_for_realm realm (values_of (credentials_field method) fields))) name c e
right_in realm users nonces now fields (Status code reason) name c e = absurd (cc)

-- ---- what policy is asked

-- what is asked about a message is what it proves by the nonces of the state
abbrev pub IsAsked : Server → List Nonce → ℕ → Message → Option Question → Type 0
IsAsked server nonces now m None = Unit {0}
IsAsked server nonces now m (Some q) = q.proof ≡ proof_of server.config.realm server.config.users nonces now m

let_asked : (server : Server) (nonces : List Nonce) (now : ℕ) (m : Message) (q : Question) (id : ℕ) (outcome : Registered) (targets : Targets) (t : Bool)
    → q.proof ≡ proof_of server.config.realm server.config.users nonces now m → IsAsked server nonces now m
    (asked_in (cond t (Register q id outcome) (Send q id targets)))
let_asked server nonces now m q id outcome targets true is = is
let_asked server nonces now m q id outcome targets false is = is

decided_asked : (server : Server) (state : ProxyState) (now : ℕ) (m : Message) (method : List ℕ) (core : CoreFields) (q : Question) (decision : Decision)
    → q.proof ≡ proof_of server.config.realm server.config.users state.nonces now m →
    IsAsked server state.nonces now m (asked_in (decided server state now m method core q decision))
decided_asked server state now m method core q Decision.Challenge is = is
decided_asked server state now m method core q (Decision.Deny id) is = is
decided_asked server state now m method core q (Decision.Allow id) is =
    let_asked server state.nonces now m q id (registration_by server state.bindings now m core) (request_targets server state.bindings now m q (Decision.Allow id))
    (is_register method) is
decided_asked server state now m method core q (Decision.Via id hop) is =
    let_asked server state.nonces now m q id (registration_by server state.bindings now m core) (request_targets server state.bindings now m q (Decision.Via id hop))
    (is_register method) is

others_asked : (server : Server) (nonces : List Nonce) (now : ℕ) (m : Message) (v : Verdict) → is_by_policy v ≡ false → IsAsked server nonces now m (asked_in v)
others_asked server nonces now m (Challenge q) h = absurd (cc)
others_asked server nonces now m (Deny q id) h = absurd (cc)
others_asked server nonces now m (Send q id targets) h = absurd (cc)
others_asked server nonces now m (Register q id outcome) h = absurd (cc)
others_asked server nonces now m Drop h = tt
others_asked server nonces now m (Respond r b status) h = tt
others_asked server nonces now m (Copy r) h = tt
others_asked server nonces now m (AckOn address id) h = tt
others_asked server nonces now m (Cancel found) h = tt
others_asked server nonces now m (Answer status extras) h = tt
others_asked server nonces now m (InDialog address id) h = tt

message_asked : (server : Server) (state : ProxyState) (a : Arrival) (bytes : List ℕ) (m : Message) (short b : Bool) → message_in (reading_of bytes) ≡ Some (m, short)
    → is_by_policy (message_verdict server state a m short) ≡ b → IsAsked server state.nonces a.now m (asked_in (message_verdict server state a m short))
message_asked server state a bytes m short false said h = others_asked server state.nonces a.now m (message_verdict server state a m short) h
message_asked server state a bytes m short true said h =
    let k = judged server state a bytes m short said h in
    let q : Question = question_of server state.nonces a.now m k.0 k.1 in
    subst (λ v. IsAsked server state.nonces a.now m (asked_in v)) (sym (judged_verdict server state a bytes m short k.0 k.1 k.2 k.3))
    (decided_asked server state a.now m k.0 k.1 q (answer_of server q) refl)

-- the same of a datagram, if it says a message
abbrev pub IsAskedBy : Server → List Nonce → Option Judged → Type 0
IsAskedBy server nonces None = Unit {0}
IsAskedBy server nonces (Some j) = IsAsked server nonces j.arrival.now j.message (asked_in j.verdict)

said_asked : (server : Server) (state : ProxyState) (a : Arrival) (bytes : List ℕ) (said : Option (Message × Bool)) → message_in (reading_of bytes) ≡ said
    → IsAskedBy server state.nonces (option_map (λ x. record { arrival = a; message = x.0; verdict = x.1 }) (verdict_in server state a said))
said_asked server state a bytes None h = tt
said_asked server state a bytes (Some x) h = message_asked server state a bytes x.0 x.1 (is_by_policy (message_verdict server state a x.0 x.1)) h refl

pub act_asked : (server : Server) (state : ProxyState) (act : Act) → IsAskedBy server state.nonces (judged_at server state act)
act_asked server state (Given (Datagram at word from bytes)) = said_asked server state (arrival_of state at word from) bytes (message_in (reading_of bytes)) refl
act_asked server state (Given (Time at)) = tt
act_asked server state (Given (Fault at ticket)) = tt
act_asked server state (Passing at) = tt

-- ---- a datagram

-- nothing is issued
none_more : (word issues : ℕ) (counts : List ℕ) (rows : List Nonce) → AreKept word issues counts rows → AreKept word (0 + issues) counts rows
none_more word issues counts rows h = let same : issues ≡ 0 + issues = omega arith in subst (λ (k : ℕ). AreKept word k counts rows) same h

-- what is at most one with something more is so alone
not_more : (x y : ℕ) → x + y ≤ 1 → y ≤ 1
not_more x y h = omega (arith, h)

-- what is asked uses the nonce that it proves by
asked_kept : (server : Server) (word issues : ℕ) (counts : List ℕ) (rows : List Nonce) (a : Arrival) (m : Message) (q : Question)
    → q.proof ≡ proof_of server.config.realm server.config.users rows a.now m → issues ≤ 1 → AreKept word issues counts rows
    → AreKept word issues (right_count word q.proof ++ counts) (Proofs.used rows a.now q.proof)
asked_kept server word issues counts rows a m q is once h =
    used_kept word issues counts rows a.now q.proof (λ name c e. right_in server.config.realm server.config.users rows a.now m.fields m.start name c (sym is ∙ e)) once h

verdict_kept : (server : Server) (word issues : ℕ) (counts : List ℕ) (rows : List Nonce) (a : Arrival) (m : Message) (v : Verdict)
    → IsAsked server rows a.now m (asked_in v)
    → issues_by word a v + issues ≤ 1 → AreKept word issues counts rows
    → AreKept word (issues_by word a v + issues) (option_map_or (λ q. right_count word q.proof) (asked_in v) [] ++ counts)
    (nonces_by rows (record { arrival = a; message = m; verdict = v }))
verdict_kept server word issues counts rows a m (Challenge q) is once h =
    issued_kept word issues (right_count word q.proof ++ counts) (Proofs.used rows a.now q.proof) a.word a.now once
    (asked_kept server word issues counts rows a m q is (not_more _ issues once) h)
verdict_kept server word issues counts rows a m (Deny q id) is once h = none_more word issues _ _
    (asked_kept server word issues counts rows a m q is (not_more _ issues once) h)
verdict_kept server word issues counts rows a m (Send q id targets) is once h = none_more word issues _ _
    (asked_kept server word issues counts rows a m q is (not_more _ issues once) h)
verdict_kept server word issues counts rows a m (Register q id outcome) is once h = none_more word issues _ _
    (asked_kept server word issues counts rows a m q is (not_more _ issues once) h)
verdict_kept server word issues counts rows a m Drop is once h = none_more word issues counts rows h
verdict_kept server word issues counts rows a m (Respond r b status) is once h = none_more word issues counts rows h
verdict_kept server word issues counts rows a m (Copy r) is once h = none_more word issues counts rows h
verdict_kept server word issues counts rows a m (AckOn address id) is once h = none_more word issues counts rows h
verdict_kept server word issues counts rows a m (Cancel found) is once h = none_more word issues counts rows h
verdict_kept server word issues counts rows a m (Answer status extras) is once h = none_more word issues counts rows h
verdict_kept server word issues counts rows a m (InDialog address id) is once h = none_more word issues counts rows h

step_kept : (server : Server) (word issues : ℕ) (counts : List ℕ) (rows : List Nonce) (o : Option Judged) → IsAskedBy server rows o
    → option_map_or (λ j. issues_by word j.arrival j.verdict) o 0 + issues ≤ 1 → AreKept word issues counts rows
    → AreKept word (option_map_or (λ j. issues_by word j.arrival j.verdict) o 0 + issues)
    (option_map_or (λ j. option_map_or (λ q. right_count word q.proof) (asked_in j.verdict) []) o [] ++ counts) (option_map_or (nonces_by rows) o rows)
step_kept server word issues counts rows None is once h = none_more word issues counts rows h
step_kept server word issues counts rows (Some j) is once h = verdict_kept server word issues counts rows j.arrival j.message j.verdict is once h

-- ---- a history

kept_of_chain : (server : Server) (first word : ℕ) (history : List Link) (last : ProxyState) → IsChain server (first_state first) history last
    → issues_of server word history ≤ 1
    → AreKept word (issues_of server word history) (right_counts server word history) last.nonces
kept_of_chain server first word [] last h once =
    subst (λ (s : ProxyState). AreKept word 0 [] s.nonces) (sym h) (nothing_kept word)
kept_of_chain server first word (link ∷ history) last h once =
    subst (λ (s : ProxyState). AreKept word (issues_of server word (link ∷ history)) (right_counts server word (link ∷ history)) s.nonces) (sym h.0)
    (subst (AreKept word (issues_of server word (link ∷ history)) (right_counts server word (link ∷ history)))
    (sym (step_nonces (under server link.config) link.before link.act link.out link.after h.1))
    (step_kept (under server link.config) word (issues_of server word history) (right_counts server word history) link.before.nonces
    (judged_at (under server link.config) link.before link.act) (act_asked (under server link.config) link.before link.act) once
    (kept_of_chain server first word history link.before h.2 (not_more _ (issues_of server word history) once))))

-- The counts fall from the newest to the oldest
pub counts_of_chain : (server : Server) (first word : ℕ) (history : List Link) (last : ProxyState) → IsChain server (first_state first) history last
    → issues_of server word history ≤ 1
    → AreFalling (right_counts server word history)
counts_of_chain server first word history last h once = (kept_of_chain server first word history last h once).are_falling
