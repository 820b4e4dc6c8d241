-- What each step of a proxy makes of its open requests.
use Rattle.std.proofs.Common.{◌≡◌, ◌∙◌, inl, inr, ℕ, ◌+◌, ◌≤◌, ◌<◌, Bool, true, false, cond, List, [], ◌∷◌, ◌++◌, find, codes, Option, Some, None, refl, sym, subst}
use Rattle.std.proofs.Common.{arith, count_by, bytes_eq, ◌==◌}
use Rattle.std.specs.Option.{option_map_or}
use Rattle.std.specs.List.{AllByRecursion}
use Rattle.std.proofs.lemmas.List.Elements.{Contains-append_left}
use Rattle.sip_message_form.specs.declared.message.Message.{Message}
use Rattle.sip_message.specs.Reading.{reading_of}
use Rattle.sip_targets.specs.declared.target.Target.{Target}
use Rattle.sip_targets.specs.declared.targets.Targets.{Targets}
use Rattle.sip_event.specs.declared.packet.Ticket.{Ticket}
use Rattle.sip_event.specs.declared.event.StepOut.{StepOut}
use Rattle.sip_event.specs.declared.event.Event.TheVariants.{Datagram, Time, Fault}
use Rattle.model_steps.specs.state.declared.server.Server.{Server}
use Rattle.model_steps.specs.state.declared.branch.Branch.{Branch}
use Rattle.model_steps.specs.state.declared.open_request.OpenRequest.{OpenRequest}
use Rattle.model_steps.specs.state.declared.proxy_state.ProxyState.{ProxyState}
use Rattle.model_steps.specs.state.SameState.{SameState}
use Rattle.model_steps.specs.state.State.{has_key}
use Rattle.model_steps.specs.context_model.Branches.{responded, cancelled, acknowledged, send_failed}
use Rattle.model_steps.specs.state.Arrival.{Arrival}
use Rattle.model_steps.specs.verdict_model.declared.question.Question.{Question}
use Rattle.model_steps.specs.verdict_model.Verdict.{Registered, Bound, Refused, Verdict, Drop, Respond, Copy, AckOn, Cancel, Answer, InDialog, Challenge, Deny, Send}
use Rattle.model_steps.specs.verdict_model.Verdict.{Register, is_full, message_verdict, message_in, verdict_in, verdict_of}
use Rattle.model_steps.specs.context_model.Opening.{closing, forking, branch_to, branches_from, dialog_branch}
use Rattle.model_steps.specs.Effect.{Effect, replaced, opened, counted, asked, issuing, renewing, registering, sending, method_of, nothing, changed, effect_of}
use Rattle.model_steps.specs.Effect.{datagram_effect}
use Rattle.model_steps.specs.Step.{Act, Given, Passing, IsStep, IsQuiet, IsDeadline, IsResend, resent, NoneBefore, NoneAgainBefore, moment_of, arrival_of, is_failed}
use Rattle.model_steps.specs.Step.{failed_branch, failed_request, fault_effect}
use Rattle.sip_model.specs.Order.{ByResponse, ByDeadline, ByFault, ByCancel, FinalAnswer, change_finals, reply_finals, forked_finals, sending_finals, registered_finals}
use Rattle.sip_model.specs.Order.{verdict_finals, datagram_finals, branch_finals, fault_finals, step_finals}
use Rattle.sip_model.proofs.Places.{IsIn, in_from_contains, contains_from_in, found_in, all_weaker}
use Rattle.sip_model.proofs.Moves.{IsStarted, sent_request, IsOpening, Answered, Sent, IsMove, Stays, TurnsAway, Opens, Changes, Resends, Acknowledges, AreMoves, One}
use Rattle.sip_model.proofs.Moves.{Two}
use Rattle.sip_model.proofs.Verdicts.{IsNewKey, IsThereOne, AreNotEmpty, Fits, verdict_fits}
use Rattle.sip_model.proofs.Openings.{sent_key}

-- ---- a datagram

-- one more request, while there is room
opens : (server : Server) (requests : List OpenRequest) (a : Arrival) (m : Message) (r : OpenRequest) (finals : List FinalAnswer) (full : Bool)
    → IsOpening server a m r finals → count_by (has_key r.key) requests ≡ 0
    → IsMove server a.now requests a.number (cond full requests (requests ++ r ∷ [])) (a.number + 1) finals
opens server requests a m r finals true opening is_new = TurnsAway a m r opening refl (omega arith) refl
opens server requests a m r finals false opening is_new = Opens a m r opening refl refl (omega arith) is_new refl

-- a request is answered at once
replies : (server : Server) (state : ProxyState) (a : Arrival) (m : Message) (status : ℕ) (text : List ℕ) → IsNewKey state.requests m
    → AreMoves server a.now state.requests a.number (opened (closing a m status text) state) (a.number + 1) (reply_finals a m status)
replies server state a m status text is_new = One (opens server state.requests a m (closing a m status text) (reply_finals a m status) (is_full state)
    (Answered status text refl refl) is_new)

-- a request is sent to branches
sends : (server : Server) (state : ProxyState) (a : Arrival) (m : Message) (first : Branch) (others : List Branch) → AllByRecursion (IsStarted a.now) (first ∷ others)
    → count_by (has_key (sent_request server a m (first ∷ others)).key) state.requests ≡ 0
    → AreMoves server a.now state.requests a.number (opened (sent_request server a m (first ∷ others)) state) (a.number + 1)
    (forked_finals server a.now (forking a m (first ∷ others)))
sends server state a m first others started is_new =
    One (opens server state.requests a m (sent_request server a m (first ∷ others)) (forked_finals server a.now (forking a m (first ∷ others))) (is_full state)
    (Sent first others started refl refl) is_new)

-- a request is sent to its first branches
forks : (server : Server) (state : ProxyState) (a : Arrival) (m : Message) (first : Branch) (others : List Branch) → AllByRecursion (IsStarted a.now) (first ∷ others)
    → IsNewKey state.requests m
    → AreMoves server a.now state.requests a.number (opened (sent_request server a m (first ∷ others)) state) (a.number + 1)
    (forked_finals server a.now (forking a m (first ∷ others)))
forks server state a m first others started is_new =
    sends server state a m first others started (subst (λ k. count_by (has_key k) state.requests ≡ 0) (sym (sent_key server a m (first ∷ others))) is_new)

-- the branches of targets, as they are first sent
started : (now number : ℕ) (ts : List Target) → AllByRecursion (IsStarted now) (branches_from now number ts)
started now number [] = tt
started now number (t ∷ ts) = (record { is_target = refl; is_due = refl; goes_next = refl }, started now (number + 1) ts)

-- a request is sent to targets
sends_to : (server : Server) (state : ProxyState) (a : Arrival) (m : Message) (targets : List Target) → IsThereOne targets → IsNewKey state.requests m
    → AreMoves server a.now state.requests a.number (opened (sent_request server a m (branches_from a.now 1 targets)) state) (a.number + 1)
    (forked_finals server a.now (forking a m (branches_from a.now 1 targets)))
sends_to server state a m [] some is_new = absurd some
sends_to server state a m (t ∷ ts) some is_new = forks server state a m (branch_to a.now 1 t) (branches_from a.now (1 + 1) ts) (started a.now 1 (t ∷ ts)) is_new

-- a request that was let through
sending_moves : (server : Server) (state : ProxyState) (a : Arrival) (m : Message) (q : Question) (id : ℕ) (targets : Targets) → AreNotEmpty targets
    → IsNewKey state.requests m
    → AreMoves server a.now state.requests a.number (sending server a m q id targets (counted a state)).state.requests
    (sending server a m q id targets (counted a state)).state.next (sending_finals server a m targets)
sending_moves server state a m q id Targets.NotFound some is_new = replies server (asked a q (counted a state)) a m 404 _ is_new
sending_moves server state a m q id Targets.Unavailable some is_new = replies server (asked a q (counted a state)) a m 480 _ is_new
sending_moves server state a m q id (Targets.Bindings targets) some is_new = sends_to server (asked a q (counted a state)) a m targets some is_new
sending_moves server state a m q id (Targets.Hop uri address) some is_new = sends_to server (asked a q (counted a state)) a m
    (record { uri = uri; address = Some address } ∷ []) tt is_new

-- a REGISTER that was let through
registering_moves : (server : Server) (state : ProxyState) (a : Arrival) (m : Message) (q : Question) (id : ℕ) (outcome : Registered) → IsNewKey state.requests m
    → AreMoves server a.now state.requests a.number (registering server a m q id outcome (counted a state)).state.requests
    (registering server a m q id outcome (counted a state)).state.next (registered_finals a m outcome)
registering_moves server state a m q id (Bound rows) is_new = replies server (counted a state) a m 200 _ is_new
registering_moves server state a m q id (Refused status extras) is_new = replies server (counted a state) a m status _ is_new

-- a copy changes nothing, unless it is an ACK
copy_moves : (server : Server) (state : ProxyState) (a : Arrival) (r : OpenRequest) (t : Bool) → IsIn r state.requests
    → AreMoves server a.now state.requests a.number (cond t (record (counted a state) { requests = replaced (acknowledged a.now r) state.requests })
    (counted a state)).requests
    (cond t (record (counted a state) { requests = replaced (acknowledged a.now r) state.requests }) (counted a state)).next []
copy_moves server state a r true there = One (Acknowledges r there (omega arith) refl refl)
copy_moves server state a r false there = One (Stays refl (omega arith) refl)

-- a CANCEL is answered, and then cancels the request that it names
cancel_moves : (server : Server) (state : ProxyState) (a : Arrival) (m : Message) (r : OpenRequest) (text : List ℕ) (full : Bool) → IsNewKey state.requests m
    → IsIn r state.requests
    → AreMoves server a.now state.requests a.number (replaced (cancelled server a.now r).request (cond full state.requests (state.requests ++ closing a m 200 text ∷ [])))
    (a.number + 1)
    (change_finals (cancelled server a.now r) ++ reply_finals a m 200)
cancel_moves server state a m r text full is_new there =
    Two (cond full state.requests (state.requests ++ closing a m 200 text ∷ [])) (a.number + 1) (reply_finals a m 200) (change_finals (cancelled server a.now r))
    (opens server state.requests a m (closing a m 200 text) (reply_finals a m 200) full (Answered 200 text refl refl) is_new)
    (Changes r (cancelled server a.now r) (still_there full) ByCancel (omega arith) refl refl) refl where
      still_there : (t : Bool) → IsIn r (cond t state.requests (state.requests ++ closing a m 200 text ∷ []))
      still_there true = there
      still_there false = in_from_contains (state.requests ++ closing a m 200 text ∷ []) r
          (Contains-append_left state.requests (closing a m 200 text ∷ []) r (contains_from_in state.requests r there))

-- a verdict on a message
effect_moves : (server : Server) (state : ProxyState) (a : Arrival) (m : Message) (v : Verdict) → Fits state.requests m v
    → AreMoves server a.now state.requests a.number (effect_of server a m v (counted a state)).state.requests (effect_of server a m v (counted a state)).state.next
    (verdict_finals server a m v)
effect_moves server state a m Drop fits = One (Stays refl (omega arith) refl)
effect_moves server state a m (Respond r b status) fits = One (Changes r (responded server a.now r b status m) fits.0
    (ByResponse b status m (contains_from_in r.branches b fits.1)) (omega arith) refl refl)
effect_moves server state a m (Copy r) fits = copy_moves server state a r (bytes_eq (method_of m.start) (codes "ACK")) fits
effect_moves server state a m (AckOn address id) fits = One (Stays refl (omega arith) refl)
effect_moves server state a m (Cancel None) fits = replies server (counted a state) a m 481 _ fits.0
effect_moves server state a m (Cancel (Some r)) fits = cancel_moves server state a m r _ (is_full (counted a state)) fits.0 fits.1
effect_moves server state a m (Answer status extras) fits = replies server (counted a state) a m status _ fits
effect_moves server state a m (InDialog address id) fits =
    forks server (renewing server a m id (counted a state)) a m (dialog_branch server a.now m address) []
    (record { is_target = refl; is_due = refl; goes_next = refl }, tt) fits
effect_moves server state a m (Challenge q) fits = replies server (issuing a (asked a q (counted a state))) a m _ _ fits
effect_moves server state a m (Deny q id) fits = replies server (asked a q (counted a state)) a m 403 _ fits
effect_moves server state a m (Send q id targets) fits = sending_moves server state a m q id targets fits.1 fits.0
effect_moves server state a m (Register q id outcome) fits = registering_moves server state a m q id outcome fits

-- a datagram
datagram_moves : (server : Server) (state : ProxyState) (a : Arrival) (o : Option (Message × Bool))
    → AreMoves server a.now state.requests a.number (option_map_or (λ x. effect_of server a x.0 x.1 (counted a state)) (verdict_in server state a o)
    (nothing (counted a state))).state.requests
    (option_map_or (λ x. effect_of server a x.0 x.1 (counted a state)) (verdict_in server state a o) (nothing (counted a state))).state.next
    (datagram_finals server a (verdict_in server state a o))
datagram_moves server state a None = One (Stays refl (omega arith) refl)
datagram_moves server state a (Some x) = effect_moves server state a x.0 (message_verdict server state a x.0 x.1) (verdict_fits server state a x.0 x.1)

-- ---- the moment of an effect

-- an effect leaves a moment
abbrev IsAt : ℕ → Effect → Type 0
IsAt now effect = effect.state.moment ≡ now

-- that of a request that was let through
sending_at : (server : Server) (state : ProxyState) (a : Arrival) (m : Message) (q : Question) (id : ℕ) (targets : Targets)
    → IsAt a.now (sending server a m q id targets (counted a state))
sending_at server state a m q id Targets.NotFound = refl
sending_at server state a m q id Targets.Unavailable = refl
sending_at server state a m q id (Targets.Bindings targets) = refl
sending_at server state a m q id (Targets.Hop uri address) = refl

-- of a REGISTER
registering_at : (server : Server) (state : ProxyState) (a : Arrival) (m : Message) (q : Question) (id : ℕ) (outcome : Registered)
    → IsAt a.now (registering server a m q id outcome (counted a state))
registering_at server state a m q id (Bound rows) = refl
registering_at server state a m q id (Refused status extras) = refl

-- of a copy
copy_at : (state : ProxyState) (a : Arrival) (requests : List OpenRequest) (t : Bool)
    → (cond t (record (counted a state) { requests = requests }) (counted a state)).moment ≡ a.now
copy_at state a requests true = refl
copy_at state a requests false = refl

-- of a verdict
effect_at : (server : Server) (state : ProxyState) (a : Arrival) (m : Message) (v : Verdict) → IsAt a.now (effect_of server a m v (counted a state))
effect_at server state a m Drop = refl
effect_at server state a m (Respond r b status) = refl
effect_at server state a m (Copy r) = copy_at state a (replaced (acknowledged a.now r) state.requests) (bytes_eq (method_of m.start) (codes "ACK"))
effect_at server state a m (AckOn address id) = refl
effect_at server state a m (Cancel None) = refl
effect_at server state a m (Cancel (Some r)) = refl
effect_at server state a m (Answer status extras) = refl
effect_at server state a m (InDialog address id) = refl
effect_at server state a m (Challenge q) = refl
effect_at server state a m (Deny q id) = refl
effect_at server state a m (Send q id targets) = sending_at server state a m q id targets
effect_at server state a m (Register q id outcome) = registering_at server state a m q id outcome

-- of a datagram
pub datagram_at : (server : Server) (state : ProxyState) (a : Arrival) (o : Option (Message × Verdict))
    → IsAt a.now (option_map_or (λ x. effect_of server a x.0 x.1 (counted a state)) o (nothing (counted a state)))
datagram_at server state a None = refl
datagram_at server state a (Some x) = effect_at server state a x.0 x.1

-- ---- a fault

-- a branch whose request could not be sent
failed_moves : (server : Server) (now : ℕ) (state : ProxyState) (r : OpenRequest) (number : ℕ) (o : Option Branch) → IsIn r state.requests
    → ((b : Branch) → o ≡ Some b → IsIn b r.branches × (is_failed number b ≡ true))
    → AreMoves server now state.requests state.next (failed_branch server now (record state { moment = now }) r o).state.requests
    (failed_branch server now (record state { moment = now }) r o).state.next (branch_finals server now r o)
failed_moves server now state r number None there found = One (Stays refl (omega arith) refl)
failed_moves server now state r number (Some b) there found =
    let is = found b refl in
    One (Changes r (send_failed server now r b) there (ByFault b number (contains_from_in r.branches b is.0) is.1) (omega arith) refl refl)

-- a send that failed
fault_moves : (server : Server) (now : ℕ) (ticket : Ticket) (state : ProxyState) (o : Option OpenRequest) → ((r : OpenRequest) → o ≡ Some r → IsIn r state.requests)
    → AreMoves server now state.requests state.next (failed_request server now ticket (record state { moment = now }) o).state.requests
    (failed_request server now ticket (record state { moment = now }) o).state.next (fault_finals server now ticket o)
fault_moves server now ticket state None there = One (Stays refl (omega arith) refl)
fault_moves server now ticket state (Some r) there = failed_moves server now state r ticket.branch (find (is_failed ticket.branch) r.branches) (there r refl)
    (λ b e. found_in (is_failed ticket.branch) r.branches b e)

-- the moment of that
failed_at : (server : Server) (now : ℕ) (state : ProxyState) (r : OpenRequest) (o : Option Branch)
    → IsAt now (failed_branch server now (record state { moment = now }) r o)
failed_at server now state r None = refl
failed_at server now state r (Some b) = refl

-- of either
pub fault_at : (server : Server) (now : ℕ) (ticket : Ticket) (state : ProxyState) (o : Option OpenRequest)
    → IsAt now (failed_request server now ticket (record state { moment = now }) o)
fault_at server now ticket state None = refl
fault_at server now ticket state (Some r) = failed_at server now state r (find (is_failed ticket.branch) r.branches)

-- ---- a step

-- A step at a moment: what it makes of the open requests, the state's moment after it, and that no deadline was passed over, and nothing that goes again.
pub record IsTaken (server : Server) (old : ProxyState) (now : ℕ) (new : ProxyState) (finals : List FinalAnswer) : Type 0 where
  pub moves : AreMoves server now old.requests old.next new.requests new.next finals
  pub is_at : new.moment ≡ now
  pub none_passed : NoneBefore now old.requests
  pub none_again : NoneAgainBefore now old.requests

-- the same of a state that an effect leaves
taken : (server : Server) (old : ProxyState) (now : ℕ) (effect new : ProxyState) (finals : List FinalAnswer) → SameState new effect
    → AreMoves server now old.requests old.next effect.requests effect.next finals → effect.moment ≡ now
    → NoneBefore now old.requests → NoneAgainBefore now old.requests → IsTaken server old now new finals
taken server old now effect new finals e moves at none again =
    record {
      moves =
          subst (λ (next : ℕ). AreMoves server now old.requests old.next new.requests next finals) (sym e.next)
          (subst (λ (requests : List OpenRequest). AreMoves server now old.requests old.next requests effect.next finals) (sym e.requests) moves);
      is_at = e.moment ∙ at;
      none_passed = none;
      none_again = again;
    }

-- what is later isn't before
pub none_before : (now : ℕ) (dues : List ℕ) → AllByRecursion (λ due. now < due) dues → AllByRecursion (λ due. now ≤ due) dues
none_before now dues all = all_weaker (λ due. now < due) (λ due. now ≤ due) dues (λ due h. omega arith) all

-- time passes
quiet_taken : (server : Server) (old : ProxyState) (at : ℕ) (out : StepOut) (new : ProxyState) → IsQuiet server old at out new → IsTaken server old out.at new []
quiet_taken server old at out new h =
    taken server old out.at (record old { moment = out.at }) new [] h.does.leaves (One (Stays refl (omega arith) refl)) refl h.none_passed h.none_again_passed

-- a deadline passes
deadline_taken : (server : Server) (old : ProxyState) (at : ℕ) (out : StepOut) (new : ProxyState) → (h : IsDeadline server old at out new)
    → IsTaken server old out.at new (change_finals h.change)
deadline_taken server old at out new h =
    taken server old out.at (changed server out.at old h.change).state new (change_finals h.change) h.does.leaves
    (One (Changes h.request h.change (in_from_contains old.requests h.request h.is_open) (ByDeadline h.change h.passes) (omega arith) refl refl)) refl h.is_first
    h.none_again

-- something goes again
resend_taken : (server : Server) (old : ProxyState) (at : ℕ) (out : StepOut) (new : ProxyState) → (h : IsResend server old at out new) → IsTaken server old out.at new []
resend_taken server old at out new h =
    taken server old out.at (resent out.at old h.packets h.next).state new [] h.does.leaves
    (One (Resends h.request h.packets h.next (in_from_contains old.requests h.request h.is_open) h.goes (omega arith) refl refl)) refl h.is_first h.none_again

-- the moment at which a step stands
abbrev pub stands_at : ProxyState → Act → StepOut → ℕ
stands_at old (Given (Datagram at word from bytes)) out = moment_of old at
stands_at old (Given (Time at)) out = out.at
stands_at old (Given (Fault at ticket)) out = moment_of old at
stands_at old (Passing at) out = out.at

-- each step is one of these
pub step_taken : (server : Server) (old : ProxyState) (act : Act) (out : StepOut) (new : ProxyState) → (h : IsStep server old act out new)
    → IsTaken server old (stands_at old act out) new (step_finals server old act out new h)
step_taken server old (Given (Datagram at word from bytes)) out new h =
    let a : Arrival = arrival_of old at word from in
    taken server old a.now (datagram_effect server old a bytes).state new (datagram_finals server a (verdict_of server old a bytes)) h.does.leaves
    (datagram_moves server old a (message_in (reading_of bytes))) (datagram_at server old a (verdict_of server old a bytes))
    (none_before a.now _ h.none_due) (none_before a.now _ h.none_again)
step_taken server old (Given (Time at)) out new h = quiet_taken server old at out new h.quiet
step_taken server old (Given (Fault at ticket)) out new h =
    let now = moment_of old at in
    let o = find (λ (r : OpenRequest). r.number == ticket.datagram) old.requests in
    taken server old now (fault_effect server now ticket (record old { moment = now })).state new (fault_finals server now ticket o) h.does.leaves
    (fault_moves server now ticket old o (λ r e. (found_in (λ (x : OpenRequest). x.number == ticket.datagram) old.requests r e).0)) (fault_at server now ticket old o)
    h.none_passed h.none_again
step_taken server old (Passing at) out new (inl quiet) = quiet_taken server old at out new quiet
step_taken server old (Passing at) out new (inr (inl due)) = deadline_taken server old at out new due
step_taken server old (Passing at) out new (inr (inr goes)) = resend_taken server old at out new goes
