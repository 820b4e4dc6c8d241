-- The parts of each step.
use Rattle.std.proofs.Common.{◌≡◌, ◌∙◌, inl, inr, ℕ, ◌+◌, ◌==◌, Bool, true, false, List, find, codes, bytes_eq, Option, Some, None, refl, sym, subst, arith, Contains}
use Rattle.std.proofs.Common.{cond}
use Rattle.std.specs.Option.{option_map_or}
use Rattle.std.proofs.lemmas.Bool.Decides.{nat_tests}
use Rattle.sip_message_form.specs.declared.message.Message.{Message}
use Rattle.sip_message.specs.Reading.{reading_of}
use Rattle.sip_targets.specs.declared.targets.Targets.{Targets}
use Rattle.sip_event.specs.declared.packet.Packet.{Packet}
use Rattle.sip_event.specs.declared.packet.Ticket.{Ticket}
use Rattle.sip_event.specs.declared.event.StepOut.{StepOut}
use Rattle.sip_event.specs.declared.event.Event.TheVariants.{Datagram, Time, Fault}
use Rattle.model_steps.specs.state.declared.server.Server.{Server}
use Rattle.model_steps.specs.state.declared.branch.Branch.{Branch}
use Rattle.model_steps.specs.state.declared.open_request.OpenRequest.{OpenRequest}
use Rattle.model_steps.specs.state.declared.proxy_state.ProxyState.{ProxyState}
use Rattle.model_steps.specs.state.Arrival.{Arrival}
use Rattle.model_steps.specs.context_model.Branches.{acknowledged, send_failed}
use Rattle.model_steps.specs.verdict_model.declared.question.Question.{Question}
use Rattle.model_steps.specs.verdict_model.Verdict.{Registered, Bound, Refused, Verdict, Drop, Respond, Copy, AckOn, Cancel, Answer, InDialog, Challenge, Deny, Send}
use Rattle.model_steps.specs.verdict_model.Verdict.{Register, message_in, verdict_of}
use Rattle.model_steps.specs.Effect.{Effect, replaced, changed, counted, nothing, sending, registering, method_of, effect_of, datagram_effect}
use Rattle.model_steps.specs.Step.{Act, Given, Passing, Does, IsStep, IsQuiet, IsDeadline, IsResend, resent, NoneBefore, NoneAgainBefore, moment_of, arrival_of}
use Rattle.model_steps.specs.Step.{originals, retransmissions, is_failed, failed_branch, failed_request, fault_effect}
use Rattle.sip_model.specs.Parts.{ByDeadline, ByFault, Stays, Changes, Resends, AreParts, One, HasParts, next_after}
use Rattle.sip_model.proofs.Places.{contains_from_in, found_in}
use Rattle.sip_model.proofs.Owing.{said_at}
use Rattle.sip_model.proofs.Steps.{none_before, datagram_at, fault_at}
use Rattle.sip_model.proofs.Parting.{HasPartsAt, datagram_parts}

-- ---- the number of the next datagram

-- an effect leaves that number
abbrev Leaves : ℕ → Effect → Type 0
Leaves next effect = effect.state.next ≡ next

-- a request that was let through takes one
sending_next : (server : Server) (state : ProxyState) (a : Arrival) (m : Message) (q : Question) (id : ℕ) (targets : Targets)
    → Leaves (a.number + 1) (sending server a m q id targets (counted a state))
sending_next server state a m q id Targets.NotFound = refl
sending_next server state a m q id Targets.Unavailable = refl
sending_next server state a m q id (Targets.Bindings targets) = refl
sending_next server state a m q id (Targets.Hop uri address) = refl

-- so does a REGISTER
registering_next : (server : Server) (state : ProxyState) (a : Arrival) (m : Message) (q : Question) (id : ℕ) (outcome : Registered)
    → Leaves (a.number + 1) (registering server a m q id outcome (counted a state))
registering_next server state a m q id (Bound rows) = refl
registering_next server state a m q id (Refused status extras) = refl

-- a copy
copied_next : (state : ProxyState) (a : Arrival) (requests : List OpenRequest) (t : Bool)
    → (cond t (record (counted a state) { requests = requests }) (counted a state)).next ≡ a.number + 1
copied_next state a requests true = refl
copied_next state a requests false = refl

-- whatever the verdict is
effect_next : (server : Server) (state : ProxyState) (a : Arrival) (m : Message) (v : Verdict) → Leaves (a.number + 1) (effect_of server a m v (counted a state))
effect_next server state a m Drop = refl
effect_next server state a m (Respond r b status) = refl
effect_next server state a m (Copy r) = copied_next state a (replaced (acknowledged a.now r) state.requests) (bytes_eq (method_of m.start) (codes "ACK"))
effect_next server state a m (AckOn address id) = refl
effect_next server state a m (Cancel None) = refl
effect_next server state a m (Cancel (Some r)) = refl
effect_next server state a m (Answer status extras) = refl
effect_next server state a m (InDialog address id) = refl
effect_next server state a m (Challenge q) = refl
effect_next server state a m (Deny q id) = refl
effect_next server state a m (Send q id targets) = sending_next server state a m q id targets
effect_next server state a m (Register q id outcome) = registering_next server state a m q id outcome

-- a datagram
datagram_next : (server : Server) (state : ProxyState) (a : Arrival) (o : Option (Message × Verdict))
    → Leaves (a.number + 1) (option_map_or (λ x. effect_of server a x.0 x.1 (counted a state)) o (nothing (counted a state)))
datagram_next server state a None = refl
datagram_next server state a (Some x) = effect_next server state a x.0 x.1

-- a send that failed takes none
failed_next : (server : Server) (now : ℕ) (state : ProxyState) (r : OpenRequest) (o : Option Branch)
    → Leaves state.next (failed_branch server now (record state { moment = now }) r o)
failed_next server now state r None = refl
failed_next server now state r (Some b) = refl

-- nor does one that belongs to no open request
fault_next : (server : Server) (now : ℕ) (ticket : Ticket) (state : ProxyState) (o : Option OpenRequest)
    → Leaves state.next (failed_request server now ticket (record state { moment = now }) o)
fault_next server now ticket state None = refl
fault_next server now ticket state (Some r) = failed_next server now state r (find (is_failed ticket.branch) r.branches)

-- ---- a fault

module _ (server : Server) (old : ProxyState) (at now : ℕ) (ticket : Ticket) where
  -- a branch whose request could not be sent
  failed_parts : (r : OpenRequest) → Contains old.requests r → ticket.datagram ≡ r.number → (o : Option Branch) → find (is_failed ticket.branch) r.branches ≡ o
      → HasPartsAt server old (Given (Fault at ticket)) now (failed_branch server now (record old { moment = now }) r o)
  failed_parts r there numbered None is = One (Stays refl refl refl)
  failed_parts r there numbered (Some b) is = One (Changes r (send_failed server now r b) there (ByFault at ticket b refl numbered is) refl refl)

  -- equal numbers
  same_number : (x y : ℕ) → (x == y) ≡ true → y ≡ x
  same_number x y e = grind (arith, nat_tests)

  -- a send that failed
  fault_parts : (o : Option OpenRequest) → find (λ (r : OpenRequest). r.number == ticket.datagram) old.requests ≡ o
      → HasPartsAt server old (Given (Fault at ticket)) now (failed_request server now ticket (record old { moment = now }) o)
  fault_parts None is = One (Stays refl refl refl)
  fault_parts (Some r) is =
      let found = found_in (λ (x : OpenRequest). x.number == ticket.datagram) old.requests r is in
      failed_parts r (contains_from_in old.requests r found.0) (same_number r.number ticket.datagram found.1) (find (is_failed ticket.branch) r.branches) refl

-- ---- a step

-- a step that does what has parts has these
does_parts : (server : Server) (old : ProxyState) (act : Act) (now : ℕ) (effect : Effect) (out : StepOut) (new : ProxyState) → Does server old now effect out new
    → HasPartsAt server old act now effect
    → effect.state.moment ≡ now → effect.state.next ≡ next_after old act → NoneBefore now old.requests → NoneAgainBefore now old.requests
    → HasParts server old act out new
does_parts server old act now effect out new does parts at next none again =
    let is : now ≡ new.moment = sym (does.leaves.moment ∙ at) in
    let changes : AreParts server old act now old.requests new.requests effect.originals effect.again =
    subst (λ (requests : List OpenRequest). AreParts server old act now old.requests requests effect.originals effect.again) (sym does.leaves.requests) parts in
    let firsts : AreParts server old act now old.requests new.requests (originals out.packets) effect.again =
    subst (λ (packets : List Packet). AreParts server old act now old.requests new.requests packets effect.again) (sym does.sends) changes in
    let whole : AreParts server old act now old.requests new.requests (originals out.packets) (retransmissions out.packets) =
    subst (λ (packets : List Packet). AreParts server old act now old.requests new.requests (originals out.packets) packets) (sym does.repeats) firsts in
    record {
      is_at = does.at_moment ∙ is;
      parts = subst (λ t. AreParts server old act t old.requests new.requests (originals out.packets) (retransmissions out.packets)) is whole;
      is_next = does.leaves.next ∙ next;
      none_passed = subst (λ t. NoneBefore t old.requests) is none;
      none_again = subst (λ t. NoneAgainBefore t old.requests) is again;
    }

-- time passes
quiet_parts : (server : Server) (old : ProxyState) (act : Act) (at : ℕ) (out : StepOut) (new : ProxyState) → IsQuiet server old at out new → old.next ≡ next_after old act
    → HasParts server old act out new
quiet_parts server old act at out new h next =
    does_parts server old act out.at (nothing (record old { moment = out.at })) out new h.does (One (Stays refl refl refl)) refl next h.none_passed h.none_again_passed

-- a deadline passes
deadline_parts : (server : Server) (old : ProxyState) (at : ℕ) (out : StepOut) (new : ProxyState) → IsDeadline server old at out new
    → HasParts server old (Passing at) out new
deadline_parts server old at out new h =
    does_parts server old (Passing at) out.at (changed server out.at old h.change) out new h.does
    (One (Changes h.request h.change h.is_open (ByDeadline h.change h.passes) refl refl)) refl refl h.is_first h.none_again

-- something goes again
resend_parts : (server : Server) (old : ProxyState) (at : ℕ) (out : StepOut) (new : ProxyState) → IsResend server old at out new
    → HasParts server old (Passing at) out new
resend_parts server old at out new h =
    does_parts server old (Passing at) out.at (resent out.at old h.packets h.next) out new h.does
    (One (Resends h.request h.next h.is_open h.goes refl refl)) refl refl h.is_first h.none_again

-- each step has its parts
pub step_parts : (server : Server) (old : ProxyState) (act : Act) (out : StepOut) (new : ProxyState) → IsStep server old act out new → HasParts server old act out new
step_parts server old (Given (Datagram at word from bytes)) out new h =
    let a : Arrival = arrival_of old at word from in
    does_parts server old (Given (Datagram at word from bytes)) a.now (datagram_effect server old a bytes) out new h.does
    (datagram_parts server old (Given (Datagram at word from bytes)) a bytes (λ m short says. said_at old at word from bytes m short says) (message_in (reading_of bytes))
    refl)
    (datagram_at server old a (verdict_of server old a bytes)) (datagram_next server old a (verdict_of server old a bytes)) (none_before a.now _ h.none_due)
    (none_before a.now _ h.none_again)
step_parts server old (Given (Time at)) out new h = quiet_parts server old (Given (Time at)) at out new h.quiet refl
step_parts server old (Given (Fault at ticket)) out new h =
    let now = moment_of old at in
    let o = find (λ (r : OpenRequest). r.number == ticket.datagram) old.requests in
    does_parts server old (Given (Fault at ticket)) now (fault_effect server now ticket (record old { moment = now })) out new h.does
    (fault_parts server old at now ticket o refl)
    (fault_at server now ticket old o) (fault_next server now ticket old o) h.none_passed h.none_again
step_parts server old (Passing at) out new (inl quiet) = quiet_parts server old (Passing at) at out new quiet refl
step_parts server old (Passing at) out new (inr (inl due)) = deadline_parts server old at out new due
step_parts server old (Passing at) out new (inr (inr goes)) = resend_parts server old at out new goes
