-- A REGISTER counts as let through exactly where it is valid and new, and a rule lets it through.
use Rattle.std.proofs.Common.{◌≡◌, ◌↔◌, ℕ, List, cond, Bool, true, false, refl, sym, ◌∙◌, ap, Option, Some, None}
use Rattle.std.specs.Option.{option_and_then}
use Rattle.sip_message_form.specs.declared.message.Message.{Message}
use Rattle.sip_message.specs.Reading.{reading_of}
use Rattle.sip_header.specs.declared.core_fields.CoreFields.{CoreFields}
use Rattle.sip_policy.specs.declared.decision.Decision.{Decision}
use Rattle.sip_targets.specs.declared.targets.Targets.{Targets}
use Rattle.sip_config_types.specs.declared.config.Config.{Config}
use Rattle.model_steps.specs.state.declared.server.Server.{Server}
use Rattle.model_steps.specs.state.declared.proxy_state.ProxyState.{ProxyState}
use Rattle.model_steps.specs.state.Arrival.{Arrival}
use Rattle.model_steps.specs.verdict_model.declared.question.Question.{Question}
use Rattle.model_steps.specs.verdict_model.Verdict.{Registered, Verdict, Drop, Respond, Copy, AckOn, Cancel, Answer, InDialog, Challenge, Deny, Send, Register}
use Rattle.model_steps.specs.verdict_model.Verdict.{is_register, question_of, answer_of, registration_by, request_targets, decided, message_verdict, message_in}
use Rattle.model_steps.specs.verdict_model.Verdict.{verdict_in}
use Rattle.sip_model.specs.Bindings.{Arrived, allowed_by, allowed_in}
use Rattle.sip_model.specs.Access.{IsAllowedRegister, rule_of}
use Rattle.sip_model.proofs.Judging.{is_by_policy, judged, judged_verdict, verdict_is}

-- ---- what is let through is so by the rules

-- a verdict that lets a REGISTER through is policy's
allowed_by_policy : (config : Config) (now : ℕ) (m : Message) (v : Verdict) (r : Arrived) → allowed_by config now m v ≡ Some r → is_by_policy v ≡ true
allowed_by_policy config now m (Register q id outcome) r h = refl
allowed_by_policy config now m Drop r h = cc
allowed_by_policy config now m (Respond x b status) r h = cc
allowed_by_policy config now m (Copy x) r h = cc
allowed_by_policy config now m (AckOn address id) r h = cc
allowed_by_policy config now m (Cancel found) r h = cc
allowed_by_policy config now m (Answer status extras) r h = cc
allowed_by_policy config now m (InDialog address id) r h = cc
allowed_by_policy config now m (Challenge q) r h = cc
allowed_by_policy config now m (Deny q id) r h = cc
allowed_by_policy config now m (Send q id targets) r h = cc

-- of what is registered or sent, what is let through is a REGISTER, and is this one
either_allowed : (config : Config) (now : ℕ) (m : Message) (q : Question) (id : ℕ) (b : Bool) (outcome : Registered) (targets : Targets) (r : Arrived)
    → allowed_by config now m (cond b (Register q id outcome) (Send q id targets)) ≡ Some r → (b ≡ true) × (r ≡ record { config = config; at = now; request = m })
either_allowed config now m q id true outcome targets r h = (refl, cc)
either_allowed config now m q id false outcome targets r h = cc

-- where a decision lets a REGISTER through, it has a rule that does
decided_allowed : (server : Server) (state : ProxyState) (now : ℕ) (m : Message) (method : List ℕ) (core : CoreFields) (q : Question) (decision : Decision) (r : Arrived)
    → allowed_by server.config now m (decided server state now m method core q decision) ≡ Some r
    → (id : ℕ) × (rule_of decision ≡ Some id) × (is_register method ≡ true) × (r ≡ record { config = server.config; at = now; request = m })
decided_allowed server state now m method core q Decision.Challenge r h = cc
decided_allowed server state now m method core q (Decision.Deny id) r h = cc
decided_allowed server state now m method core q (Decision.Allow id) r h =
    let k = either_allowed server.config now m q id (is_register method) (registration_by server state.bindings now m core)
    (request_targets server state.bindings now m q (Decision.Allow id)) r h in
    (id, refl, k.0, k.1)
decided_allowed server state now m method core q (Decision.Via id hop) r h =
    let k = either_allowed server.config now m q id (is_register method) (registration_by server state.bindings now m core)
    (request_targets server state.bindings now m q (Decision.Via id hop)) r h in
    (id, refl, k.0, k.1)

-- what is let through of what bytes say
said_allowed : (server : Server) (state : ProxyState) (a : Arrival) (bytes : List ℕ) (said : Option (Message × Bool)) (r : Arrived) → message_in (reading_of bytes) ≡ said
    → option_and_then (λ x. allowed_by server.config a.now x.0 x.1) (verdict_in server state a said) ≡ Some r → IsAllowedRegister server state a bytes r
said_allowed server state a bytes None r said h = cc
said_allowed server state a bytes (Some x) r said h =
    let k = judged server state a bytes x.0 x.1 said (allowed_by_policy server.config a.now x.0 (message_verdict server state a x.0 x.1) r h) in
    let q : Question = question_of server state.nonces a.now x.0 k.0 k.1 in
    let ruled = decided_allowed server state a.now x.0 k.0 k.1 q (answer_of server q) r
    (ap (allowed_by server.config a.now x.0) (sym (judged_verdict server state a bytes x.0 x.1 k.0 k.1 k.2 k.3)) ∙ h) in
    record { m = x.0; method = k.0; core = k.1; id = ruled.0; is_new = k.3; registers = ruled.2; is_let_through = ruled.1; is_it = ruled.3 }

-- Whatever is let through is let through by the rules
pub rules_allow : (server : Server) (state : ProxyState) (a : Arrival) (bytes : List ℕ) (r : Arrived) → allowed_in server state a bytes ≡ Some r
    → IsAllowedRegister server state a bytes r
rules_allow server state a bytes r h = said_allowed server state a bytes (message_in (reading_of bytes)) r refl h

-- ---- what the rules let through is let through

-- a decision with a rule lets a REGISTER through
rule_allows : (server : Server) (state : ProxyState) (now : ℕ) (m : Message) (method : List ℕ) (core : CoreFields) (q : Question) (decision : Decision) (id : ℕ)
    → is_register method ≡ true → rule_of decision ≡ Some id → allowed_by server.config now m (decided server state now m method core q decision)
    ≡ Some (record { config = server.config; at = now; request = m })
rule_allows server state now m method core q Decision.Challenge id registers h = cc
rule_allows server state now m method core q (Decision.Deny rule) id registers h = cc
rule_allows server state now m method core q (Decision.Allow rule) id registers h =
    ap (λ b. allowed_by server.config now m (cond b (Register q rule (registration_by server state.bindings now m core))
    (Send q rule (request_targets server state.bindings now m q (Decision.Allow rule))))) registers
rule_allows server state now m method core q (Decision.Via rule hop) id registers h =
    ap (λ b. allowed_by server.config now m (cond b (Register q rule (registration_by server state.bindings now m core))
    (Send q rule (request_targets server state.bindings now m q (Decision.Via rule hop))))) registers

-- Whatever the rules let through is let through
pub allowed_by_rules : (server : Server) (state : ProxyState) (a : Arrival) (bytes : List ℕ) (r : Arrived) → IsAllowedRegister server state a bytes r
    → allowed_in server state a bytes ≡ Some r
allowed_by_rules server state a bytes r h =
    let q : Question = question_of server state.nonces a.now h.m h.method h.core in
    ap (λ said. option_and_then (λ x. allowed_by server.config a.now x.0 x.1) (verdict_in server state a said)) h.is_new.says
    ∙ ap (allowed_by server.config a.now h.m) (verdict_is server state bytes h.m h.method h.core h.is_new a)
    ∙ rule_allows server state a.now h.m h.method h.core q (answer_of server q) h.id h.registers h.is_let_through
    ∙ ap Some (sym h.is_it)

-- A REGISTER counts as let through exactly where the rules let it through
pub allowed_is : (server : Server) (state : ProxyState) (a : Arrival) (bytes : List ℕ) (r : Arrived)
    → (allowed_in server state a bytes ≡ Some r) ↔ IsAllowedRegister server state a bytes r
allowed_is server state a bytes r = (rules_allow server state a bytes r, allowed_by_rules server state a bytes r)
