-- From its moment on the bindings after a history say the same as those that its allowed REGISTERs make.
use Rattle.std.proofs.Common.{◌≡◌, ℕ, ◌≤◌, List, [], ◌∷◌, cond, Bool, true, false, refl, sym, ◌∙◌, ap, subst, Option, Some, None, ⊎_elim}
use Rattle.std.specs.Prelude.{◌++◌, Ok, find, ◌==◌}
use Rattle.std.specs.Option.{option_and_then, option_map_or, option_to_list}
use Rattle.std.specs.Result.{result_ok}
use Rattle.sip_message_form.specs.declared.message.Message.{Message}
use Rattle.sip_message.specs.Reading.{reading_of}
use Rattle.sip_header.specs.declared.core_fields.CoreFields.{CoreFields}
use Rattle.sip_header.specs.CoreFields.{core_of}
use Rattle.sip_policy.specs.declared.decision.Decision.{Decision}
use Rattle.sip_location.specs.declared.binding.Binding.{Binding}
use Rattle.sip_targets.specs.declared.targets.Targets.{Targets}
use Rattle.sip_event.specs.declared.event.StepOut.{StepOut}
use Rattle.sip_event.specs.declared.event.Event.TheVariants.{Datagram, Time, Fault}
use Rattle.sip_event.specs.declared.packet.Ticket.{Ticket}
use Rattle.model_steps.specs.state.declared.server.Server.{Server}
use Rattle.model_steps.specs.state.declared.proxy_state.ProxyState.{ProxyState}
use Rattle.model_steps.specs.state.declared.open_request.OpenRequest.{OpenRequest}
use Rattle.model_steps.specs.state.declared.branch.Branch.{Branch}
use Rattle.model_steps.specs.state.State.{first_state}
use Rattle.model_steps.specs.state.Arrival.{Arrival}
use Rattle.model_steps.specs.verdict_model.declared.question.Question.{Question}
use Rattle.model_steps.specs.verdict_model.Verdict.{Bound, Refused, Verdict, Drop, Respond, Copy, AckOn, Cancel, Answer, InDialog, Challenge, Deny, Send, Register}
use Rattle.model_steps.specs.verdict_model.Verdict.{is_register, question_of, answer_of, registration_by, request_targets, decided, message_verdict, message_in}
use Rattle.model_steps.specs.verdict_model.Verdict.{verdict_in, verdict_of}
use Rattle.model_steps.specs.Effect.{counted, effect_of, nothing}
use Rattle.model_steps.specs.Step.{Act, Given, Passing, IsStep, arrival_of, is_failed, failed_branch, failed_request, fault_effect, moment_of}
use Rattle.sip_model.specs.Run.{Link, under, IsChain}
use Rattle.sip_model.specs.Bindings.{Arrived, rows_after, after_register, bindings_by, allowed_by, allowed_at, allowed_registers, bindings_after}
use Rattle.sip_model.proofs.Again.{chain_again}
use Rattle.sip_model.proofs.Judging.{is_by_policy, judged, judged_verdict}
use Rattle.sip_model.proofs.Steps.{stands_at, step_taken}
use Rattle.sip_model.proofs.Deadlines.{chain_passes_none}
use Rattle.sip_model.proofs.Moments.{moment_rises}
use Rattle.sip_model.proofs.Sameness.{register_same}
use Rattle.sip_location.specs.Sameness.{SameBindings}
use Rattle.sip_location.proofs.Sameness.{same_self, same_later, same_joined}

-- ---- what a verdict does to the bindings

-- the bindings after a verdict: a registration's, else as they were
abbrev pub bound_by : Verdict → List Binding → List Binding
bound_by (Register q id outcome) rows = rows_after rows outcome
bound_by Drop rows = rows
bound_by (Respond r b status) rows = rows
bound_by (Copy r) rows = rows
bound_by (AckOn address id) rows = rows
bound_by (Cancel found) rows = rows
bound_by (Answer status extras) rows = rows
bound_by (InDialog address id) rows = rows
bound_by (Challenge q) rows = rows
bound_by (Deny q id) rows = rows
bound_by (Send q id targets) rows = rows

-- of two states with the same bindings, either has them
either_binds : (b : Bool) (left right : ProxyState) → left.bindings ≡ right.bindings → (cond b left right).bindings ≡ right.bindings
either_binds true left right h = h
either_binds false left right h = refl

-- the effect of a verdict leaves these bindings
pub effect_binds : (server : Server) (a : Arrival) (m : Message) (v : Verdict) (state : ProxyState)
    → (effect_of server a m v state).state.bindings ≡ bound_by v state.bindings
effect_binds server a m Drop state = refl
effect_binds server a m (Respond r b status) state = refl
effect_binds server a m (Copy r) state = either_binds _ _ state refl
effect_binds server a m (AckOn address id) state = refl
effect_binds server a m (Cancel None) state = refl
effect_binds server a m (Cancel (Some r)) state = refl
effect_binds server a m (Answer status extras) state = refl
effect_binds server a m (InDialog address id) state = refl
effect_binds server a m (Challenge q) state = refl
effect_binds server a m (Deny q id) state = refl
effect_binds server a m (Send q id Targets.NotFound) state = refl
effect_binds server a m (Send q id Targets.Unavailable) state = refl
effect_binds server a m (Send q id (Targets.Bindings targets)) state = refl
effect_binds server a m (Send q id (Targets.Hop uri address)) state = refl
effect_binds server a m (Register q id (Bound rows)) state = refl
effect_binds server a m (Register q id (Refused status extras)) state = refl

-- ---- what a verdict says of a REGISTER

-- the bindings that a REGISTER makes which may have been let through
abbrev pub after_allowed : Server → List Binding → Option Arrived → List Binding
after_allowed server rows allowed = option_map_or (λ r. after_register server r rows) allowed rows

-- a verdict on a message binds what the REGISTER that it lets through makes of the bindings
abbrev IsFaithful : Server → List Binding → ℕ → Message → Verdict → Type 0
IsFaithful server rows now m v = bound_by v rows ≡ after_allowed server rows (allowed_by server.config now m v)

-- a verdict that isn't policy's lets no REGISTER through, and leaves the bindings
others_faithful : (server : Server) (rows : List Binding) (now : ℕ) (m : Message) (v : Verdict) → is_by_policy v ≡ false → IsFaithful server rows now m v
others_faithful server rows now m (Register q id outcome) h = cc
others_faithful server rows now m Drop h = refl
others_faithful server rows now m (Respond r b status) h = refl
others_faithful server rows now m (Copy r) h = refl
others_faithful server rows now m (AckOn address id) h = refl
others_faithful server rows now m (Cancel found) h = refl
others_faithful server rows now m (Answer status extras) h = refl
others_faithful server rows now m (InDialog address id) h = refl
others_faithful server rows now m (Challenge q) h = refl
others_faithful server rows now m (Deny q id) h = refl
others_faithful server rows now m (Send q id targets) h = refl

-- a registration makes the bindings that the REGISTER makes with the core fields that it has
registered_faithful : (server : Server) (rows : List Binding) (now : ℕ) (m : Message) (core : CoreFields) (q : Question) (id : ℕ) → core_of m ≡ Ok core
    → IsFaithful server rows now m (Register q id (registration_by server rows now m core))
registered_faithful server rows now m core q id h = ap (λ read. option_map_or (λ c. rows_after rows (registration_by server rows now m c)) (result_ok read) rows) (sym h)

-- a request that is registered or sent binds what it should, where a registration does
either_faithful : (server : Server) (rows : List Binding) (now : ℕ) (m : Message) (b : Bool) (left : Verdict) (q : Question) (id : ℕ) (targets : Targets)
    → IsFaithful server rows now m left → IsFaithful server rows now m (cond b left (Send q id targets))
either_faithful server rows now m true left q id targets h = h
either_faithful server rows now m false left q id targets h = refl

-- what a decision makes of a request binds what the REGISTER makes that it lets through
decided_faithful : (server : Server) (state : ProxyState) (now : ℕ) (m : Message) (method : List ℕ) (core : CoreFields) (q : Question) (decision : Decision)
    → core_of m ≡ Ok core
    → IsFaithful server state.bindings now m (decided server state now m method core q decision)
decided_faithful server state now m method core q Decision.Challenge h = refl
decided_faithful server state now m method core q (Decision.Deny id) h = refl
decided_faithful server state now m method core q (Decision.Allow id) h =
    either_faithful server state.bindings now m (is_register method) (Register q id (registration_by server state.bindings now m core)) q id
    (request_targets server state.bindings now m q (Decision.Allow id)) (registered_faithful server state.bindings now m core q id h)
decided_faithful server state now m method core q (Decision.Via id hop) h =
    either_faithful server state.bindings now m (is_register method) (Register q id (registration_by server state.bindings now m core)) q id
    (request_targets server state.bindings now m q (Decision.Via id hop)) (registered_faithful server state.bindings now m core q id h)

-- ---- a datagram

-- the verdict on a message does so, whether it is policy's or not
message_faithful : (server : Server) (state : ProxyState) (a : Arrival) (bytes : List ℕ) (m : Message) (short : Bool) (b : Bool)
    → message_in (reading_of bytes) ≡ Some (m, short)
    → is_by_policy (message_verdict server state a m short) ≡ b → IsFaithful server state.bindings a.now m (message_verdict server state a m short)
message_faithful server state a bytes m short false said h = others_faithful server state.bindings a.now m (message_verdict server state a m short) h
message_faithful server state a bytes m short true said h =
    let k = judged server state a bytes m short said h in
    let q : Question = question_of server state.nonces a.now m k.0 k.1 in
    subst (λ v. IsFaithful server state.bindings a.now m v) (sym (judged_verdict server state a bytes m short k.0 k.1 k.2 k.3))
    (decided_faithful server state a.now m k.0 k.1 q (answer_of server q) k.3.core_is)

-- the bindings after a datagram are those that the REGISTER makes which it says and which is let through
said_binds : (server : Server) (state : ProxyState) (a : Arrival) (bytes : List ℕ) (said : Option (Message × Bool)) → message_in (reading_of bytes) ≡ said
    → (option_map_or (λ x. effect_of server a x.0 x.1 (counted a state)) (verdict_in server state a said) (nothing (counted a state))).state.bindings
    ≡ after_allowed server state.bindings (option_and_then (λ x. allowed_by server.config a.now x.0 x.1) (verdict_in server state a said))
said_binds server state a bytes None h = refl
said_binds server state a bytes (Some x) h =
    effect_binds server a x.0 (message_verdict server state a x.0 x.1) (counted a state)
    ∙ message_faithful server state a bytes x.0 x.1 (is_by_policy (message_verdict server state a x.0 x.1)) h refl

-- ---- a step

-- a fault changes no bindings, whether a branch has its ticket or none does
failed_branch_binds : (server : Server) (now : ℕ) (state : ProxyState) (r : OpenRequest) (b : Option Branch)
    → (failed_branch server now state r b).state.bindings ≡ state.bindings
failed_branch_binds server now state r None = refl
failed_branch_binds server now state r (Some b) = refl

-- and whether an open request has its ticket or none does
failed_request_binds : (server : Server) (now : ℕ) (ticket : Ticket) (state : ProxyState) (r : Option OpenRequest)
    → (failed_request server now ticket state r).state.bindings ≡ state.bindings
failed_request_binds server now ticket state None = refl
failed_request_binds server now ticket state (Some r) = failed_branch_binds server now state r (find (is_failed ticket.branch) r.branches)

-- a fault changes no bindings
fault_binds : (server : Server) (now : ℕ) (ticket : Ticket) (state : ProxyState) → (fault_effect server now ticket state).state.bindings ≡ state.bindings
fault_binds server now ticket state = failed_request_binds server now ticket state (find (λ (r : OpenRequest). r.number == ticket.datagram) state.requests)

-- From its moment on the bindings after a step say the same as those that the REGISTER makes which it lets through
pub step_binds : (server : Server) (old : ProxyState) (act : Act) (out : StepOut) (new : ProxyState) → IsStep server old act out new
    → SameBindings new.moment new.bindings (after_allowed server old.bindings (allowed_at server old act))
step_binds server old (Given (Datagram at word from bytes)) out new h =
    subst (SameBindings new.moment new.bindings) (said_binds server old (arrival_of old at word from) bytes (message_in (reading_of bytes)) refl) h.does.leaves.bindings
step_binds server old (Given (Time at)) out new h = h.quiet.does.leaves.bindings
step_binds server old (Given (Fault at ticket)) out new h =
    subst (SameBindings new.moment new.bindings) (fault_binds server (moment_of old at) ticket (record old { moment = moment_of old at })) h.does.leaves.bindings
step_binds server old (Passing at) out new h =
    ⊎_elim (λ quiet. quiet.does.leaves.bindings) (λ due. ⊎_elim (λ passed. passed.does.leaves.bindings) (λ goes. goes.does.leaves.bindings) due) h

-- ---- a history

-- one more REGISTER, or none
one_more : (server : Server) (allowed : Option Arrived) (earlier : List Arrived)
    → bindings_by server (option_to_list allowed ++ earlier) ≡ after_allowed server (bindings_by server earlier) allowed
one_more server None earlier = refl
one_more server (Some r) earlier = refl

-- a REGISTER that a verdict lets through comes at the moment of its datagram: rows that say the same are so after it
verdict_same : (server : Server) (left right : List Binding) (now : ℕ) (m : Message) (v : Verdict) → SameBindings now left right
    → SameBindings now (after_allowed server left (allowed_by server.config now m v)) (after_allowed server right (allowed_by server.config now m v))
verdict_same server left right now m (Register q id outcome) h = register_same server (record { config = server.config; at = now; request = m }) left right h
verdict_same server left right now m Drop h = h
verdict_same server left right now m (Respond r b status) h = h
verdict_same server left right now m (Copy r) h = h
verdict_same server left right now m (AckOn address id) h = h
verdict_same server left right now m (Cancel found) h = h
verdict_same server left right now m (Answer status extras) h = h
verdict_same server left right now m (InDialog address id) h = h
verdict_same server left right now m (Challenge q) h = h
verdict_same server left right now m (Deny q id) h = h
verdict_same server left right now m (Send q id targets) h = h

-- so they are after what a datagram says
said_same : (server : Server) (now : ℕ) (left right : List Binding) (said : Option (Message × Verdict)) → SameBindings now left right
    → SameBindings now (after_allowed server left (option_and_then (λ x. allowed_by server.config now x.0 x.1) said))
    (after_allowed server right (option_and_then (λ x. allowed_by server.config now x.0 x.1) said))
said_same server now left right None h = h
said_same server now left right (Some x) h = verdict_same server left right now x.0 x.1 h

-- and after what a step lets through, from the moment at which it stands
allowed_same : (server : Server) (old : ProxyState) (act : Act) (out : StepOut) (left right : List Binding) → SameBindings (stands_at old act out) left right
    → SameBindings (stands_at old act out) (after_allowed server left (allowed_at server old act)) (after_allowed server right (allowed_at server old act))
allowed_same server old (Given (Datagram at word from bytes)) out left right h = said_same server (moment_of old at) left right
    (verdict_of server old (arrival_of old at word from) bytes) h
allowed_same server old (Given (Time at)) out left right h = h
allowed_same server old (Given (Fault at ticket)) out left right h = h
allowed_same server old (Passing at) out left right h = h

-- From its moment on the bindings after a history say the same as those that its allowed REGISTERs make
pub bindings_of_chain : (server : Server) (first : ℕ) (history : List Link) (last : ProxyState) → IsChain server (first_state first) history last
    → SameBindings last.moment last.bindings (bindings_after server history)
bindings_of_chain server first [] last h = same_self last.moment _ _ (ap (λ (s : ProxyState). s.bindings) h)
bindings_of_chain server first (link ∷ history) last h =
    let old : ProxyState = link.before in
    let earlier : List Binding = bindings_after server history in
    let now : ℕ = stands_at old link.act link.out in
    let is_at : link.after.moment ≡ now = (step_taken (under server link.config) old link.act link.out link.after h.1).is_at in
    let rises : old.moment ≤ link.after.moment = moment_rises (under server link.config) old link.act link.out link.after (chain_passes_none server first history old h.2)
    (chain_again server first history old h.2) h.1 in
    let before : SameBindings link.after.moment old.bindings earlier =
    same_later old.moment link.after.moment old.bindings earlier rises (bindings_of_chain server first history old h.2) in
    let allowed : Option Arrived = allowed_at (under server link.config) old link.act in
    let both : SameBindings link.after.moment (after_allowed server old.bindings allowed) (after_allowed server earlier allowed) =
    subst (λ (moment : ℕ). SameBindings moment (after_allowed server old.bindings allowed) (after_allowed server earlier allowed)) (sym is_at)
    (allowed_same (under server link.config) old link.act link.out old.bindings earlier (subst (λ (moment : ℕ). SameBindings moment old.bindings earlier) is_at before))
    in
    subst (λ (s : ProxyState). SameBindings s.moment s.bindings (bindings_after server (link ∷ history))) (sym h.0)
    (subst (SameBindings link.after.moment link.after.bindings) (sym (one_more server allowed (allowed_registers server history)))
    (same_joined link.after.moment link.after.bindings (after_allowed server old.bindings allowed) (after_allowed server earlier allowed)
    (step_binds (under server link.config) old link.act link.out link.after h.1) both))
