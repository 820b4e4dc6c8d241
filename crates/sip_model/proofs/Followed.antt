-- What a history makes of the nonces, of the audit log and of the known dialogs is what its verdicts and changes say.
use Rattle.std.proofs.Common.{◌≡◌, inl, inr, ℕ, ◌≤◌, List, [], ◌∷◌, find, cond, Bool, true, false, refl, sym, ◌∙◌, ap, subst, Option, Some, None}
use Rattle.std.specs.Prelude.{option_map, ◌==◌}
use Rattle.std.specs.Option.{option_map_or}
use Rattle.std.specs.List.{AllByRecursion}
use Rattle.sip_message_form.specs.declared.message.Message.{Message}
use Rattle.sip_digest.specs.declared.nonces.Nonce.{Nonce}
use Rattle.sip_targets.specs.declared.targets.Targets.{Targets}
use Rattle.sip_dialog.specs.declared.dialog.Dialog.{Dialog}
use Rattle.sip_dialog.specs.Sameness.{SameDialogs}
use Rattle.sip_dialog.proofs.Sameness.{dialogs_self, dialogs_joined, dialogs_later}
use Rattle.sip_event.specs.declared.packet.Ticket.{Ticket}
use Rattle.sip_event.specs.declared.event.StepOut.{StepOut}
use Rattle.sip_event.specs.declared.event.Event.TheVariants.{Datagram, Time, Fault}
use Rattle.model_steps.specs.state.declared.server.Server.{Server}
use Rattle.model_steps.specs.state.declared.branch.Branch.{Branch}
use Rattle.model_steps.specs.state.declared.open_request.OpenRequest.{OpenRequest}
use Rattle.model_steps.specs.state.declared.proxy_state.ProxyState.{ProxyState}
use Rattle.model_steps.specs.state.State.{first_state}
use Rattle.model_steps.proofs.of_state.Sameness.{after_request_same}
use Rattle.model_steps.specs.state.Arrival.{Arrival}
use Rattle.model_steps.specs.verdict_model.Verdict.{Bound, Refused, Verdict, Drop, Respond, Copy, AckOn, Cancel, Answer, InDialog, Challenge, Deny, Send, Register}
use Rattle.model_steps.specs.verdict_model.Verdict.{verdict_of}
use Rattle.model_steps.specs.state.Dialogs.{after_request}
use Rattle.model_steps.specs.context_model.Branches.{settled, responded, send_failed, cancelled}
use Rattle.sip_targets.specs.Targets.{target_list}
use Rattle.model_steps.specs.context_model.Opening.{forking, branches_from, dialog_branch, tried, trying}
use Rattle.model_steps.specs.Effect.{Effect, counted, effect_of, nothing}
use Rattle.model_steps.specs.Step.{Act, Given, Passing, IsStep, arrival_of, is_failed, failed_branch, failed_request, moment_of}
use Rattle.sip_model.specs.Run.{Link, under, IsChain}
use Rattle.sip_model.specs.Histories.{Judged, judged_at, nonces_by, nonces_after, records_of, records_at, verdict_dialogs, forking_dialogs, branch_dialogs, fault_dialogs}
use Rattle.sip_model.specs.Histories.{step_dialogs, history_dialogs}
use Rattle.sip_model.proofs.Steps.{stands_at, step_taken}
use Rattle.sip_model.proofs.Deadlines.{chain_passes_none}
use Rattle.sip_model.proofs.Again.{chain_again}
use Rattle.sip_model.proofs.Moments.{moment_rises}
use Rattle.sip_model.proofs.Sameness.{dialogs_after_same}

-- what a datagram does, by the verdict on it
abbrev DatagramEffect : Server → Arrival → ProxyState → Option (Message × Verdict) → Effect
DatagramEffect server a state o = option_map_or (λ x. effect_of server a x.0 x.1 (counted a state)) o (nothing (counted a state))

-- ---- nonces

-- of two states with the same nonces, either has them
either_nonces : (b : Bool) (left right : ProxyState) → left.nonces ≡ right.nonces → (cond b left right).nonces ≡ right.nonces
either_nonces true left right h = h
either_nonces false left right h = refl

effect_nonces : (server : Server) (a : Arrival) (m : Message) (v : Verdict) (state : ProxyState)
    → (effect_of server a m v state).state.nonces ≡ nonces_by state.nonces (record { arrival = a; message = m; verdict = v })
effect_nonces server a m (Copy r) state = either_nonces _ _ state refl
effect_nonces server a m Drop state = refl
effect_nonces server a m (Respond r b status) state = refl
effect_nonces server a m (AckOn address id) state = refl
effect_nonces server a m (Cancel None) state = refl
effect_nonces server a m (Cancel (Some r)) state = refl
effect_nonces server a m (Answer status extras) state = refl
effect_nonces server a m (InDialog address id) state = refl
effect_nonces server a m (Challenge q) state = refl
effect_nonces server a m (Deny q id) state = refl
effect_nonces server a m (Send q id Targets.NotFound) state = refl
effect_nonces server a m (Send q id Targets.Unavailable) state = refl
effect_nonces server a m (Send q id (Targets.Bindings targets)) state = refl
effect_nonces server a m (Send q id (Targets.Hop uri address)) state = refl
effect_nonces server a m (Register q id (Bound rows)) state = refl
effect_nonces server a m (Register q id (Refused status extras)) state = refl

datagram_nonces : (server : Server) (a : Arrival) (state : ProxyState) (o : Option (Message × Verdict))
    → (DatagramEffect server a state o).state.nonces ≡ option_map_or (nonces_by state.nonces) (option_map (λ x. record { arrival = a; message = x.0; verdict = x.1 }) o)
    state.nonces
datagram_nonces server a state None = refl
datagram_nonces server a state (Some x) = effect_nonces server a x.0 x.1 (counted a state)

-- a fault changes none
branch_nonces : (server : Server) (now : ℕ) (state : ProxyState) (r : OpenRequest) (b : Option Branch) → (failed_branch server now state r b).state.nonces ≡ state.nonces
branch_nonces server now state r None = refl
branch_nonces server now state r (Some b) = refl

request_nonces : (server : Server) (now : ℕ) (ticket : Ticket) (state : ProxyState) (r : Option OpenRequest)
    → (failed_request server now ticket state r).state.nonces ≡ state.nonces
request_nonces server now ticket state None = refl
request_nonces server now ticket state (Some r) = branch_nonces server now state r (find (is_failed ticket.branch) r.branches)

pub step_nonces : (server : Server) (old : ProxyState) (act : Act) (out : StepOut) (new : ProxyState) → IsStep server old act out new
    → new.nonces ≡ option_map_or (nonces_by old.nonces) (judged_at server old act) old.nonces
step_nonces server old (Given (Datagram at word from bytes)) out new h =
    h.does.leaves.nonces ∙ datagram_nonces server (arrival_of old at word from) old (verdict_of server old (arrival_of old at word from) bytes)
step_nonces server old (Given (Time at)) out new h = h.quiet.does.leaves.nonces
step_nonces server old (Given (Fault at ticket)) out new h =
    h.does.leaves.nonces ∙ request_nonces server (moment_of old at) ticket (record old { moment = moment_of old at })
    (find (λ (r : OpenRequest). r.number == ticket.datagram) old.requests)
step_nonces server old (Passing at) out new (inl quiet) = quiet.does.leaves.nonces
step_nonces server old (Passing at) out new (inr (inl due)) = due.does.leaves.nonces
step_nonces server old (Passing at) out new (inr (inr goes)) = goes.does.leaves.nonces

-- The nonces after a history are those that its verdicts say
pub nonces_of_chain : (server : Server) (first : ℕ) (history : List Link) (last : ProxyState) → IsChain server (first_state first) history last
    → last.nonces ≡ nonces_after server history
nonces_of_chain server first [] last h = ap (λ (s : ProxyState). s.nonces) h
nonces_of_chain server first (link ∷ history) last h =
    ap (λ (s : ProxyState). s.nonces) h.0 ∙ step_nonces (under server link.config) link.before link.act link.out link.after h.1
    ∙ ap (λ (nonces : List Nonce). option_map_or (nonces_by nonces) (judged_at (under server link.config) link.before link.act) nonces)
    (nonces_of_chain server first history link.before h.2)

-- ---- the audit log

effect_records : (server : Server) (a : Arrival) (m : Message) (v : Verdict) (state : ProxyState) → (effect_of server a m v state).records ≡ records_of server a m v
effect_records server a m (Copy r) state = refl
effect_records server a m Drop state = refl
effect_records server a m (Respond r b status) state = refl
effect_records server a m (AckOn address id) state = refl
effect_records server a m (Cancel None) state = refl
effect_records server a m (Cancel (Some r)) state = refl
effect_records server a m (Answer status extras) state = refl
effect_records server a m (InDialog address id) state = refl
effect_records server a m (Challenge q) state = refl
effect_records server a m (Deny q id) state = refl
effect_records server a m (Send q id Targets.NotFound) state = refl
effect_records server a m (Send q id Targets.Unavailable) state = refl
effect_records server a m (Send q id (Targets.Bindings targets)) state = refl
effect_records server a m (Send q id (Targets.Hop uri address)) state = refl
effect_records server a m (Register q id (Bound rows)) state = refl
effect_records server a m (Register q id (Refused status extras)) state = refl

datagram_records : (server : Server) (a : Arrival) (state : ProxyState) (o : Option (Message × Verdict))
    → (DatagramEffect server a state o).records ≡ option_map_or (λ (j : Judged). records_of server j.arrival j.message j.verdict)
    (option_map (λ x. record { arrival = a; message = x.0; verdict = x.1 }) o) []
datagram_records server a state None = refl
datagram_records server a state (Some x) = effect_records server a x.0 x.1 (counted a state)

branch_records : (server : Server) (now : ℕ) (state : ProxyState) (r : OpenRequest) (b : Option Branch) → (failed_branch server now state r b).records ≡ []
branch_records server now state r None = refl
branch_records server now state r (Some b) = refl

request_records : (server : Server) (now : ℕ) (ticket : Ticket) (state : ProxyState) (r : Option OpenRequest) → (failed_request server now ticket state r).records ≡ []
request_records server now ticket state None = refl
request_records server now ticket state (Some r) = branch_records server now state r (find (is_failed ticket.branch) r.branches)

pub step_records : (server : Server) (old : ProxyState) (act : Act) (out : StepOut) (new : ProxyState) → IsStep server old act out new
    → out.records ≡ records_at server old act
step_records server old (Given (Datagram at word from bytes)) out new h =
    h.does.records ∙ datagram_records server (arrival_of old at word from) old (verdict_of server old (arrival_of old at word from) bytes)
step_records server old (Given (Time at)) out new h = h.quiet.does.records
step_records server old (Given (Fault at ticket)) out new h =
    h.does.records ∙ request_records server (moment_of old at) ticket (record old { moment = moment_of old at })
    (find (λ (r : OpenRequest). r.number == ticket.datagram) old.requests)
step_records server old (Passing at) out new (inl quiet) = quiet.does.records
step_records server old (Passing at) out new (inr (inl due)) = due.does.records
step_records server old (Passing at) out new (inr (inr goes)) = goes.does.records

-- The records of each step are those of its verdict
pub records_of_chain : (server : Server) (first : ProxyState) (history : List Link) (last : ProxyState) → IsChain server first history last
    → AllByRecursion (λ (link : Link). link.out.records ≡ records_at (under server link.config) link.before link.act) history
records_of_chain server first [] last h = tt
records_of_chain server first (link ∷ history) last h = (
  step_records (under server link.config) link.before link.act link.out link.after h.1,
  records_of_chain server first history link.before h.2,
)

-- ---- dialogs

either_dialogs : (b : Bool) (left right : ProxyState) → left.dialogs ≡ right.dialogs → (cond b left right).dialogs ≡ right.dialogs
either_dialogs true left right h = h
either_dialogs false left right h = refl

effect_dialogs : (server : Server) (a : Arrival) (m : Message) (v : Verdict) (state : ProxyState)
    → (effect_of server a m v state).state.dialogs ≡ verdict_dialogs server a m v state.dialogs
effect_dialogs server a m (Copy r) state = either_dialogs _ _ state refl
effect_dialogs server a m Drop state = refl
effect_dialogs server a m (Respond r b status) state = refl
effect_dialogs server a m (AckOn address id) state = refl
effect_dialogs server a m (Cancel None) state = refl
effect_dialogs server a m (Cancel (Some r)) state = refl
effect_dialogs server a m (Answer status extras) state = refl
effect_dialogs server a m (InDialog address id) state = refl
effect_dialogs server a m (Challenge q) state = refl
effect_dialogs server a m (Deny q id) state = refl
effect_dialogs server a m (Send q id Targets.NotFound) state = refl
effect_dialogs server a m (Send q id Targets.Unavailable) state = refl
effect_dialogs server a m (Send q id (Targets.Bindings targets)) state = refl
effect_dialogs server a m (Send q id (Targets.Hop uri address)) state = refl
effect_dialogs server a m (Register q id (Bound rows)) state = refl
effect_dialogs server a m (Register q id (Refused status extras)) state = refl

datagram_dialogs : (server : Server) (a : Arrival) (state : ProxyState) (o : Option (Message × Verdict))
    → (DatagramEffect server a state o).state.dialogs ≡ option_map_or (λ x. verdict_dialogs server a x.0 x.1 state.dialogs) o state.dialogs
datagram_dialogs server a state None = refl
datagram_dialogs server a state (Some x) = effect_dialogs server a x.0 x.1 (counted a state)

failed_dialogs : (server : Server) (now : ℕ) (state : ProxyState) (r : OpenRequest) (b : Option Branch)
    → (failed_branch server now state r b).state.dialogs ≡ branch_dialogs server now r b state.dialogs
failed_dialogs server now state r None = refl
failed_dialogs server now state r (Some b) = refl

request_dialogs : (server : Server) (now : ℕ) (ticket : Ticket) (state : ProxyState) (r : Option OpenRequest)
    → (failed_request server now ticket state r).state.dialogs ≡ fault_dialogs server now ticket r state.dialogs
request_dialogs server now ticket state None = refl
request_dialogs server now ticket state (Some r) = failed_dialogs server now state r (find (is_failed ticket.branch) r.branches)

-- after a step the dialogs are those that it says
same_step_dialogs : (server : Server) (old : ProxyState) (act : Act) (out : StepOut) (new : ProxyState) (h : IsStep server old act out new)
    → SameDialogs new.moment new.dialogs (step_dialogs server old act out new h old.dialogs)
same_step_dialogs server old (Given (Datagram at word from bytes)) out new h =
    subst (SameDialogs new.moment new.dialogs) (datagram_dialogs server (arrival_of old at word from) old (verdict_of server old (arrival_of old at word from) bytes))
    h.does.leaves.dialogs
same_step_dialogs server old (Given (Time at)) out new h = h.quiet.does.leaves.dialogs
same_step_dialogs server old (Given (Fault at ticket)) out new h =
    subst (SameDialogs new.moment new.dialogs)
    (request_dialogs server (moment_of old at) ticket (record old { moment = moment_of old at }) (find (λ (r : OpenRequest). r.number == ticket.datagram) old.requests))
    h.does.leaves.dialogs
same_step_dialogs server old (Passing at) out new (inl quiet) = quiet.does.leaves.dialogs
same_step_dialogs server old (Passing at) out new (inr (inl due)) = due.does.leaves.dialogs
same_step_dialogs server old (Passing at) out new (inr (inr goes)) = goes.does.leaves.dialogs

forking_keeps : (server : Server) (now : ℕ) (r : OpenRequest) (left right : List Dialog) → SameDialogs now left right
    → SameDialogs now (forking_dialogs server now r left) (forking_dialogs server now r right)
forking_keeps server now r left right h = dialogs_after_same server now (settled server now [] None (tried now (trying server r) r)) left right h

-- what a verdict makes of lists that say the same says the same
verdict_keeps : (server : Server) (a : Arrival) (m : Message) (v : Verdict) (left right : List Dialog) → SameDialogs a.now left right
    → SameDialogs a.now (verdict_dialogs server a m v left) (verdict_dialogs server a m v right)
verdict_keeps server a m (Respond r b status) left right h = dialogs_after_same server a.now (responded server a.now r b status m) left right h
verdict_keeps server a m (AckOn address id) left right h = after_request_same server a.now id m left right h
verdict_keeps server a m (Cancel None) left right h = h
verdict_keeps server a m (Cancel (Some r)) left right h = dialogs_after_same server a.now (cancelled server a.now r) left right h
verdict_keeps server a m (InDialog address id) left right h =
    forking_keeps server a.now (forking a m (dialog_branch server a.now m address ∷ [])) (after_request server a.now id m left) (after_request server a.now id m right)
    (after_request_same server a.now id m left right h)
verdict_keeps server a m (Send q id Targets.NotFound) left right h = h
verdict_keeps server a m (Send q id Targets.Unavailable) left right h = h
verdict_keeps server a m (Send q id (Targets.Bindings targets)) left right h = forking_keeps server a.now
    (forking a m (branches_from a.now 1 (target_list (Targets.Bindings targets)))) left right h
verdict_keeps server a m (Send q id (Targets.Hop uri address)) left right h = forking_keeps server a.now
    (forking a m (branches_from a.now 1 (target_list (Targets.Hop uri address)))) left right h
verdict_keeps server a m Drop left right h = h
verdict_keeps server a m (Copy r) left right h = h
verdict_keeps server a m (Answer status extras) left right h = h
verdict_keeps server a m (Challenge q) left right h = h
verdict_keeps server a m (Deny q id) left right h = h
verdict_keeps server a m (Register q id outcome) left right h = h

said_keeps : (server : Server) (a : Arrival) (o : Option (Message × Verdict)) (left right : List Dialog) → SameDialogs a.now left right
    → SameDialogs a.now (option_map_or (λ x. verdict_dialogs server a x.0 x.1 left) o left) (option_map_or (λ x. verdict_dialogs server a x.0 x.1 right) o right)
said_keeps server a None left right h = h
said_keeps server a (Some x) left right h = verdict_keeps server a x.0 x.1 left right h

branch_keeps : (server : Server) (now : ℕ) (r : OpenRequest) (b : Option Branch) (left right : List Dialog) → SameDialogs now left right
    → SameDialogs now (branch_dialogs server now r b left) (branch_dialogs server now r b right)
branch_keeps server now r None left right h = h
branch_keeps server now r (Some b) left right h = dialogs_after_same server now (send_failed server now r b) left right h

fault_keeps : (server : Server) (now : ℕ) (ticket : Ticket) (o : Option OpenRequest) (left right : List Dialog) → SameDialogs now left right
    → SameDialogs now (fault_dialogs server now ticket o left) (fault_dialogs server now ticket o right)
fault_keeps server now ticket None left right h = h
fault_keeps server now ticket (Some r) left right h = branch_keeps server now r (find (is_failed ticket.branch) r.branches) left right h

-- so does what a step makes of them, at the moment at which it stands
step_keeps : (server : Server) (old : ProxyState) (act : Act) (out : StepOut) (new : ProxyState) (step : IsStep server old act out new) (left right : List Dialog)
    → SameDialogs (stands_at old act out) left right
    → SameDialogs (stands_at old act out) (step_dialogs server old act out new step left) (step_dialogs server old act out new step right)
step_keeps server old (Given (Datagram at word from bytes)) out new step left right h =
    said_keeps server (arrival_of old at word from) (verdict_of server old (arrival_of old at word from) bytes) left right h
step_keeps server old (Given (Time at)) out new step left right h = h
step_keeps server old (Given (Fault at ticket)) out new step left right h =
    fault_keeps server (moment_of old at) ticket (find (λ (r : OpenRequest). r.number == ticket.datagram) old.requests) left right h
step_keeps server old (Passing at) out new (inl quiet) left right h = h
step_keeps server old (Passing at) out new (inr (inl due)) left right h = dialogs_after_same server out.at due.change left right h
step_keeps server old (Passing at) out new (inr (inr goes)) left right h = h

-- The known dialogs after a history are those that its forwarded messages say
pub dialogs_of_chain : (server : Server) (first : ℕ) (history : List Link) (last : ProxyState) (chain : IsChain server (first_state first) history last)
    → SameDialogs last.moment last.dialogs (history_dialogs server (first_state first) history last chain)
dialogs_of_chain server first [] last chain = dialogs_self last.moment _ _ (ap (λ (s : ProxyState). s.dialogs) chain)
dialogs_of_chain server first (link ∷ history) last chain =
    let old : ProxyState = link.before in
    let now : ℕ = stands_at old link.act link.out in
    let earlier : List Dialog = history_dialogs server (first_state first) history old chain.2 in
    let is_at : link.after.moment ≡ now = (step_taken (under server link.config) old link.act link.out link.after chain.1).is_at in
    let rises : old.moment ≤ link.after.moment = moment_rises (under server link.config) old link.act link.out link.after
    (chain_passes_none server first history old chain.2) (chain_again server first history old chain.2) chain.1 in
    let before : SameDialogs link.after.moment old.dialogs earlier = dialogs_later old.moment link.after.moment old.dialogs earlier rises
    (dialogs_of_chain server first history old chain.2) in
    let after : List Dialog → List Dialog = step_dialogs (under server link.config) old link.act link.out link.after chain.1 in
    let both : SameDialogs link.after.moment (after old.dialogs) (after earlier) =
    subst (λ (moment : ℕ). SameDialogs moment (after old.dialogs) (after earlier)) (sym is_at)
    (step_keeps (under server link.config) old link.act link.out link.after chain.1 old.dialogs earlier
    (subst (λ (moment : ℕ). SameDialogs moment old.dialogs earlier) is_at before)) in
    subst (λ (s : ProxyState). SameDialogs s.moment s.dialogs (after earlier)) (sym chain.0)
    (dialogs_joined link.after.moment link.after.dialogs (after old.dialogs) (after earlier)
    (same_step_dialogs (under server link.config) old link.act link.out link.after chain.1) both)
