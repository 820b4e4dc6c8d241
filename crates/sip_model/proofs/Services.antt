-- A valid new request outside a dialog is served as the law of whole runs says.
use Rattle.std.proofs.Common.{◌≡◌, ℕ, List, [], ◌∷◌, cond, Bool, true, false, refl, ◌∙◌, ap, Option, Some, None, arith}
use Rattle.std.specs.Prelude.{length}
use Rattle.std.specs.Option.{option_map_or}
use Rattle.sip_uri.specs.declared.uri.Uri.{Uri}
use Rattle.sip_uri.specs.declared.aor.Aor.{Aor}
use Rattle.sip_message_fields.specs.declared.field.Field.{Field}
use Rattle.sip_message_form.specs.declared.message.Message.{Message}
use Rattle.sip_header.specs.declared.core_fields.CoreFields.{CoreFields}
use Rattle.sip_route.specs.Way.{request_uri_of}
use Rattle.sip_policy.specs.declared.decision.Decision.{Decision}
use Rattle.sip_location.specs.declared.binding.Binding.{Binding}
use Rattle.sip_targets.specs.declared.target.Target.{Target}
use Rattle.sip_targets.specs.declared.targets.Targets.{Targets}
use Rattle.sip_targets.specs.Targets.{target_list}
use Rattle.sip_audit.specs.declared.record.AuditOutcome.{AuditOutcome}
use Rattle.sip_event.specs.declared.event.StepOut.{StepOut}
use Rattle.sip_event.specs.declared.event.Event.TheVariants.{Datagram, Time, Fault}
use Rattle.sip_event.specs.declared.packet.Packet.{Packet}
use Rattle.model_steps.specs.state.declared.server.Server.{Server}
use Rattle.sip_location.specs.Registering.{to_aor, aor_or_nobody}
use Rattle.model_steps.specs.state.declared.proxy_state.ProxyState.{ProxyState}
use Rattle.model_steps.specs.state.Arrival.{Arrival}
use Rattle.model_steps.specs.verdict_model.declared.question.Question.{Question}
use Rattle.model_steps.specs.verdict_model.Verdict.{Registered, Bound, Refused, Send, Register, is_register, question_of, answer_of, registration_by, targets_by}
use Rattle.model_steps.specs.verdict_model.Verdict.{request_targets, let_through, decided, policy_verdict, verdict_in}
use Rattle.model_steps.specs.context_model.Opening.{forking, branches_from}
use Rattle.model_steps.specs.Effect.{Effect, registering, sending, sent_to, record_of, contact_fields, counted, asked, effect_of, datagram_effect, nothing}
use Rattle.model_steps.specs.Step.{Act, Given, Passing, IsStep, originals, arrival_of}
use Rattle.sip_model.specs.Access.{IsNewRequest, requests_to, rule_of, answer_alone, IsServed, Serves}
use Rattle.sip_model.proofs.Judging.{verdict_is}
use Rattle.sip_model.proofs.Forks.{of_branches, all_kept, none_cancellable, forked_sends}

-- ---- its effect

-- the effect of such a request is that of policy's verdict
effect_is : (server : Server) (state : ProxyState) (bytes : List ℕ) (m : Message) (method : List ℕ) (core : CoreFields) → IsNewRequest server state bytes m method core
    → (a : Arrival)
    → datagram_effect server state a bytes ≡ effect_of server a m (policy_verdict server state a.now m method core) (counted a state)
effect_is server state bytes m method core h a =
    ap (λ said. option_map_or (λ x. effect_of server a x.0 x.1 (counted a state)) (verdict_in server state a said) (nothing (counted a state))) h.says
    ∙ ap (λ v. effect_of server a m v (counted a state)) (verdict_is server state bytes m method core h a)

-- ---- to whom it goes

-- without targets nothing goes anywhere
no_request : (server : Server) (a : Arrival) (m : Message) (targets : List Target) → [] ≡ targets → [] ≡ requests_to server a m targets
no_request server a m targets h = ap (requests_to server a m) h

-- a challenge gives no targets
challenge_targets : (server : Server) (rows : List Binding) (now : ℕ) (target : Aor) (uri : Option Uri)
    → [] ≡ target_list (targets_by server rows now target Decision.Challenge uri)
challenge_targets server rows now target None = refl
challenge_targets server rows now target (Some uri) = refl

-- nor does a denial
denial_targets : (server : Server) (rows : List Binding) (now : ℕ) (target : Aor) (id : ℕ) (uri : Option Uri)
    → [] ≡ target_list (targets_by server rows now target (Decision.Deny id) uri)
denial_targets server rows now target id None = refl
denial_targets server rows now target id (Some uri) = refl

-- without targets there is none, whether it is a REGISTER or not
either_empty : (b : Bool) (targets : List Target) → [] ≡ targets → [] ≡ cond b [] targets
either_empty true targets h = refl
either_empty false targets h = h

-- a request that is sent goes to its targets, each by a branch of its own
sent_reaches : (server : Server) (a : Arrival) (m : Message) (q : Question) (id : ℕ) (targets : List Target) (state : ProxyState)
    → of_branches (sent_to server a m q id targets state).originals ≡ requests_to server a m targets
sent_reaches server a m q id targets state =
    forked_sends server a.now (forking a m (branches_from a.now 1 targets)) (record_of server a m q (AuditOutcome.Sent id (length targets)) ∷ []) (asked a q state)
    (none_cancellable a.now 1 targets)
    ∙ all_kept server (forking a m (branches_from a.now 1 targets)) a.now 1 targets (omega arith)

-- a request that was let through goes to its targets; at 404 and 480 it goes nowhere
sending_reaches : (server : Server) (a : Arrival) (m : Message) (q : Question) (id : ℕ) (targets : Targets) (state : ProxyState)
    → of_branches (sending server a m q id targets state).originals ≡ requests_to server a m (target_list targets)
sending_reaches server a m q id Targets.NotFound state = refl
sending_reaches server a m q id Targets.Unavailable state = refl
sending_reaches server a m q id (Targets.Bindings targets) state = sent_reaches server a m q id targets state
sending_reaches server a m q id (Targets.Hop uri address) state = sent_reaches server a m q id (target_list (Targets.Hop uri address)) state

-- a REGISTER goes nowhere
registering_reaches : (server : Server) (a : Arrival) (m : Message) (q : Question) (id : ℕ) (outcome : Registered) (state : ProxyState)
    → of_branches (registering server a m q id outcome state).originals ≡ []
registering_reaches server a m q id (Bound rows) state = refl
registering_reaches server a m q id (Refused status extras) state = refl

-- a request is registered and goes nowhere, or is sent to its targets
either_reaches : (server : Server) (a : Arrival) (m : Message) (q : Question) (id : ℕ) (b : Bool) (outcome : Registered) (targets : Targets) (state : ProxyState)
    → of_branches (effect_of server a m (cond b (Register q id outcome) (Send q id targets)) state).originals ≡ requests_to server a m (cond b [] (target_list targets))
either_reaches server a m q id true outcome targets state = registering_reaches server a m q id outcome state
either_reaches server a m q id false outcome targets state = sending_reaches server a m q id targets state

-- what a decision makes of it goes to the targets that the decision gives
decided_reaches : (server : Server) (old state : ProxyState) (a : Arrival) (m : Message) (method : List ℕ) (core : CoreFields) (q : Question) (decision : Decision)
    → of_branches (effect_of server a m (decided server old a.now m method core q decision) state).originals
    ≡ requests_to server a m (cond (is_register method) [] (target_list (request_targets server old.bindings a.now m q decision)))
decided_reaches server old state a m method core q Decision.Challenge =
    no_request server a m _ (either_empty (is_register method) _ (challenge_targets server old.bindings a.now q.target (request_uri_of server.config.own m)))
decided_reaches server old state a m method core q (Decision.Deny id) =
    no_request server a m _ (either_empty (is_register method) _ (denial_targets server old.bindings a.now q.target id (request_uri_of server.config.own m)))
decided_reaches server old state a m method core q (Decision.Allow id) =
    either_reaches server a m q id (is_register method) (registration_by server old.bindings a.now m core)
    (request_targets server old.bindings a.now m q (Decision.Allow id)) state
decided_reaches server old state a m method core q (Decision.Via id hop) =
    either_reaches server a m q id (is_register method) (registration_by server old.bindings a.now m core)
    (request_targets server old.bindings a.now m q (Decision.Via id hop)) state

-- ---- what a REGISTER and a denial are answered

-- the 200 of a registration lists what is bound for the one that policy was asked about
let_through_lists : (server : Server) (old state : ProxyState) (a : Arrival) (m : Message) (method : List ℕ) (core : CoreFields) (q : Question) (id : ℕ)
    (after : List Binding) (decision : Decision)
    → is_register method ≡ true → registration_by server old.bindings a.now m core ≡ Bound after
    → (effect_of server a m (let_through server old a.now m method core q id decision) state).originals
    ≡ answer_alone server a m 200 (contact_fields a.now q.target after)
let_through_lists server old state a m method core q id after decision r h =
    ap (λ b. (effect_of server a m (cond b (Register q id (registration_by server old.bindings a.now m core))
    (Send q id (request_targets server old.bindings a.now m q decision))) state).originals) r
    ∙ ap (λ outcome. (registering server a m q id outcome state).originals) h

-- so does what a decision makes of a REGISTER that it lets through
decided_lists : (server : Server) (old state : ProxyState) (a : Arrival) (m : Message) (method : List ℕ) (core : CoreFields) (q : Question) (id : ℕ)
    (after : List Binding) (decision : Decision)
    → is_register method ≡ true → rule_of decision ≡ Some id → registration_by server old.bindings a.now m core ≡ Bound after
    → (effect_of server a m (decided server old a.now m method core q decision) state).originals ≡ answer_alone server a m 200 (contact_fields a.now q.target after)
decided_lists server old state a m method core q id after Decision.Challenge r allowed h = cc
decided_lists server old state a m method core q id after (Decision.Deny rule) r allowed h = cc
decided_lists server old state a m method core q id after (Decision.Allow rule) r allowed h =
    let_through_lists server old state a m method core q rule after (Decision.Allow rule) r h
decided_lists server old state a m method core q id after (Decision.Via rule hop) r allowed h =
    let_through_lists server old state a m method core q rule after (Decision.Via rule hop) r h

-- a registration that is refused gets its status
let_through_refuses : (server : Server) (old state : ProxyState) (a : Arrival) (m : Message) (method : List ℕ) (core : CoreFields) (q : Question) (id status : ℕ)
    (extras : List Field) (decision : Decision)
    → is_register method ≡ true → registration_by server old.bindings a.now m core ≡ Refused status extras
    → (effect_of server a m (let_through server old a.now m method core q id decision) state).originals ≡ answer_alone server a m status extras
let_through_refuses server old state a m method core q id status extras decision r h =
    ap (λ b. (effect_of server a m (cond b (Register q id (registration_by server old.bindings a.now m core))
    (Send q id (request_targets server old.bindings a.now m q decision))) state).originals) r
    ∙ ap (λ outcome. (registering server a m q id outcome state).originals) h

decided_refuses : (server : Server) (old state : ProxyState) (a : Arrival) (m : Message) (method : List ℕ) (core : CoreFields) (q : Question) (id status : ℕ)
    (extras : List Field) (decision : Decision)
    → is_register method ≡ true → rule_of decision ≡ Some id → registration_by server old.bindings a.now m core ≡ Refused status extras
    → (effect_of server a m (decided server old a.now m method core q decision) state).originals ≡ answer_alone server a m status extras
decided_refuses server old state a m method core q id status extras Decision.Challenge r allowed h = cc
decided_refuses server old state a m method core q id status extras (Decision.Deny rule) r allowed h = cc
decided_refuses server old state a m method core q id status extras (Decision.Allow rule) r allowed h =
    let_through_refuses server old state a m method core q rule status extras (Decision.Allow rule) r h
decided_refuses server old state a m method core q id status extras (Decision.Via rule hop) r allowed h =
    let_through_refuses server old state a m method core q rule status extras (Decision.Via rule hop) r h

-- what is sent of a request that isn't registered is what its targets call for
let_through_sends : (server : Server) (old state : ProxyState) (a : Arrival) (m : Message) (method : List ℕ) (core : CoreFields) (q : Question) (id : ℕ)
    (targets : Targets) (decision : Decision)
    → is_register method ≡ false → request_targets server old.bindings a.now m q decision ≡ targets
    → (effect_of server a m (let_through server old a.now m method core q id decision) state).originals ≡ (sending server a m q id targets state).originals
let_through_sends server old state a m method core q id targets decision r h =
    ap (λ b. (effect_of server a m (cond b (Register q id (registration_by server old.bindings a.now m core))
    (Send q id (request_targets server old.bindings a.now m q decision))) state).originals) r
    ∙ ap (λ t. (sending server a m q id t state).originals) h

-- without a user it gets 404
decided_finds_nobody : (server : Server) (old state : ProxyState) (a : Arrival) (m : Message) (method : List ℕ) (core : CoreFields) (q : Question) (id : ℕ)
    (decision : Decision)
    → is_register method ≡ false → rule_of decision ≡ Some id → request_targets server old.bindings a.now m q decision ≡ Targets.NotFound
    → (effect_of server a m (decided server old a.now m method core q decision) state).originals ≡ answer_alone server a m 404 []
decided_finds_nobody server old state a m method core q id Decision.Challenge r allowed h = cc
decided_finds_nobody server old state a m method core q id (Decision.Deny rule) r allowed h = cc
decided_finds_nobody server old state a m method core q id (Decision.Allow rule) r allowed h =
    let_through_sends server old state a m method core q rule Targets.NotFound (Decision.Allow rule) r h
decided_finds_nobody server old state a m method core q id (Decision.Via rule hop) r allowed h =
    let_through_sends server old state a m method core q rule Targets.NotFound (Decision.Via rule hop) r h

-- without a live binding it gets 480
decided_finds_no_binding : (server : Server) (old state : ProxyState) (a : Arrival) (m : Message) (method : List ℕ) (core : CoreFields) (q : Question) (id : ℕ)
    (decision : Decision)
    → is_register method ≡ false → rule_of decision ≡ Some id → request_targets server old.bindings a.now m q decision ≡ Targets.Unavailable
    → (effect_of server a m (decided server old a.now m method core q decision) state).originals ≡ answer_alone server a m 480 []
decided_finds_no_binding server old state a m method core q id Decision.Challenge r allowed h = cc
decided_finds_no_binding server old state a m method core q id (Decision.Deny rule) r allowed h = cc
decided_finds_no_binding server old state a m method core q id (Decision.Allow rule) r allowed h =
    let_through_sends server old state a m method core q rule Targets.Unavailable (Decision.Allow rule) r h
decided_finds_no_binding server old state a m method core q id (Decision.Via rule hop) r allowed h =
    let_through_sends server old state a m method core q rule Targets.Unavailable (Decision.Via rule hop) r h

-- policy is asked about the address of record of To, where it is asked about a REGISTER
register_target : (server : Server) (state : ProxyState) (now : ℕ) (m : Message) (method : List ℕ) (core : CoreFields) → is_register method ≡ true
    → (question_of server state.nonces now m method core).target ≡ to_aor core
register_target server state now m method core r = ap (λ b. cond b (to_aor core) (aor_or_nobody (request_uri_of server.config.own m))) r

-- ---- a step

-- what is sent for such a request is what policy's decision makes of it
sent_is : (server : Server) (old : ProxyState) (bytes : List ℕ) (m : Message) (method : List ℕ) (core : CoreFields) (a : Arrival) (packets : List Packet)
    → IsNewRequest server old bytes m method core → originals packets ≡ (datagram_effect server old a bytes).originals
    → originals packets ≡ (effect_of server a m (policy_verdict server old a.now m method core) (counted a old)).originals
sent_is server old bytes m method core a packets h sends = sends ∙ ap (λ (effect : Effect). effect.originals) (effect_is server old bytes m method core h a)

-- a step for such a request serves it
request_served : (server : Server) (old : ProxyState) (bytes : List ℕ) (m : Message) (method : List ℕ) (core : CoreFields) (a : Arrival) (out : StepOut)
    → IsNewRequest server old bytes m method core → originals out.packets ≡ (datagram_effect server old a bytes).originals
    → IsServed server old.bindings old a m method core out
request_served server old bytes m method core a out h sends =
    let q : Question = question_of server old.nonces a.now m method core in
    let sent : originals out.packets ≡ (effect_of server a m (policy_verdict server old a.now m method core) (counted a old)).originals =
    sent_is server old bytes m method core a out.packets h sends in
    record {
      reaches = ap of_branches sent ∙ decided_reaches server old (counted a old) a m method core q (answer_of server q);
      lists = λ id after r allowed bound.
          sent ∙ decided_lists server old (counted a old) a m method core q id after (answer_of server q) r allowed bound
          ∙ ap (λ aor. answer_alone server a m 200 (contact_fields a.now aor after)) (register_target server old a.now m method core r);
      refuses = λ id status extras r allowed refused. sent ∙ decided_refuses server old (counted a old) a m method core q id status extras (answer_of server q) r allowed
          refused;
      finds_nobody = λ id r allowed nowhere. sent ∙ decided_finds_nobody server old (counted a old) a m method core q id (answer_of server q) r allowed nowhere;
      finds_no_binding = λ id r allowed nowhere. sent ∙ decided_finds_no_binding server old (counted a old) a m method core q id (answer_of server q) r allowed nowhere;
      challenges = λ challenge. sent ∙ ap (λ decision. (effect_of server a m (decided server old a.now m method core q decision) (counted a old)).originals) challenge;
      denies = λ id denial. sent ∙ ap (λ decision. (effect_of server a m (decided server old a.now m method core q decision) (counted a old)).originals) denial;
    }

-- A step serves what it is taken for by the bindings before it
pub serves_of_step : (server : Server) (old : ProxyState) (act : Act) (out : StepOut) (new : ProxyState) → IsStep server old act out new
    → Serves server old.bindings old act out
serves_of_step server old (Given (Datagram at word from bytes)) out new h =
    λ m method core is_new. request_served server old bytes m method core (arrival_of old at word from) out is_new h.does.sends
serves_of_step server old (Given (Time at)) out new h = tt
serves_of_step server old (Given (Fault at ticket)) out new h = tt
serves_of_step server old (Passing at) out new h = tt
