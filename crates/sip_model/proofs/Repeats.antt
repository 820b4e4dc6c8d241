-- What goes again in a step is what may be sent again of a request that was open before it.
use Rattle.std.proofs.Common.{◌≡◌, inl, inr, ℕ, ◌==◌, Bool, true, false, cond, List, [], ◌∷◌, find, flat_map, Contains, Option, Some, None, refl, sym, subst}
use Rattle.std.specs.Option.{option_map_or}
use Rattle.std.specs.List.{AllByRecursion}
use Rattle.std.proofs.lemmas.List.Elements.{Contains-append_left, Contains-append_right}
use Rattle.sip_message_form.specs.declared.message.Message.{Message}
use Rattle.sip_message.specs.Reading.{reading_of}
use Rattle.sip_targets.specs.declared.targets.Targets.{Targets}
use Rattle.sip_event.specs.declared.packet.Packet.{Packet}
use Rattle.sip_event.specs.declared.packet.Ticket.{Ticket}
use Rattle.sip_event.specs.declared.event.StepOut.{StepOut}
use Rattle.sip_event.specs.declared.event.Event.TheVariants.{Datagram, Time, Fault}
use Rattle.model_steps.specs.state.declared.server.Server.{Server}
use Rattle.model_steps.specs.state.declared.branch.Branch.{Branch}
use Rattle.model_steps.specs.state.declared.open_request.OpenRequest.{OpenRequest}
use Rattle.model_steps.specs.state.declared.proxy_state.ProxyState.{ProxyState}
use Rattle.model_steps.specs.state.State.{is_failure}
use Rattle.model_steps.specs.context_model.Sending.{branch_packets}
use Rattle.model_steps.specs.context_model.Retransmission.{answers_again, goes_again, acks_again, branch_again, retransmissions_of, IsRetransmission, IsResent, OfAnswer}
use Rattle.model_steps.specs.context_model.Retransmission.{OfRequest}
use Rattle.model_steps.specs.state.Arrival.{Arrival}
use Rattle.model_steps.specs.verdict_model.declared.question.Question.{Question}
use Rattle.model_steps.specs.verdict_model.Verdict.{Registered, Bound, Refused, Verdict, Drop, Respond, Copy, AckOn, Cancel, Answer, InDialog, Challenge, Deny, Send}
use Rattle.model_steps.specs.verdict_model.Verdict.{Register, message_verdict, message_in, verdict_in}
use Rattle.model_steps.specs.Effect.{counted, registering, sending, nothing, effect_of}
use Rattle.model_steps.specs.Step.{Act, Given, Passing, IsStep, retransmissions, is_failed, failed_branch, failed_request, moment_of, arrival_of}
use Rattle.sip_model.proofs.Lists.{all_weaker, all_there}
use Rattle.sip_model.proofs.Places.{IsIn, contains_from_in, in_from_contains}
use Rattle.sip_model.proofs.Verdicts.{Fits, verdict_fits}

-- what one element of a list gives, all give together
in_flat_map : {X Y : Type 0} (f : X → List Y) (xs : List X) (x : X) → IsIn x xs → (y : Y) → Contains (f x) y → Contains (flat_map f xs) y
in_flat_map f [] x there y h = absurd there
in_flat_map f (z ∷ zs) x (inl same) y h = Contains-append_left (f z) (flat_map f zs) y (subst (λ v. Contains (f v) y) (sym same) h)
in_flat_map f (z ∷ zs) x (inr there) y h = Contains-append_right (f z) (flat_map f zs) y (in_flat_map f zs x there y h)

-- packets of an open request that may be sent again
of_request : (server : Server) (requests : List OpenRequest) (r : OpenRequest) (packets : List Packet) → Contains requests r
    → AllByRecursion (Contains (retransmissions_of server r)) packets
    → AllByRecursion (IsRetransmission server requests) packets
of_request server requests r packets there all =
    all_weaker (Contains (retransmissions_of server r)) (IsRetransmission server requests) (λ p one. record { request = r; is_open = there; is_one = one }) packets all

-- its last answer
answer_repeats : (server : Server) (requests : List OpenRequest) (r : OpenRequest) → Contains requests r
    → AllByRecursion (IsRetransmission server requests) (answers_again r r.answer)
answer_repeats server requests r there =
    of_request server requests r (answers_again r r.answer) there
    (all_weaker (Contains (answers_again r r.answer)) (Contains (retransmissions_of server r))
    (λ p one. Contains-append_left (answers_again r r.answer) (flat_map (branch_again server r) r.branches) p one) (answers_again r r.answer)
    (all_there (answers_again r r.answer)))

-- what may be sent again of a branch
branch_repeats : (server : Server) (requests : List OpenRequest) (r : OpenRequest) (b : Branch) (packets : List Packet) → Contains requests r → IsIn b r.branches
    → AllByRecursion (Contains (branch_again server r b)) packets
    → AllByRecursion (IsRetransmission server requests) packets
branch_repeats server requests r b packets there is_there all =
    of_request server requests r packets there
    (all_weaker (Contains (branch_again server r b)) (Contains (retransmissions_of server r))
    (λ p one. Contains-append_right (answers_again r r.answer) (flat_map (branch_again server r) r.branches) p
    (in_flat_map (branch_again server r) r.branches b is_there p one)) packets all)

-- the ACK of a final answer, where a further one came
ack_repeats : (server : Server) (requests : List OpenRequest) (r : OpenRequest) (b : Branch) (t : Bool) → Contains requests r → IsIn b r.branches
    → AllByRecursion (IsRetransmission server requests) (cond t (acks_again server r b b.phase) [])
ack_repeats server requests r b true there is_there =
    branch_repeats server requests r b (acks_again server r b b.phase) there is_there
    (all_weaker (Contains (acks_again server r b b.phase)) (Contains (branch_again server r b))
    (λ p one. Contains-append_right (cond (goes_again r b) (branch_packets server true r b) []) (acks_again server r b b.phase) p one) (acks_again server r b b.phase)
    (all_there (acks_again server r b b.phase)))
ack_repeats server requests r b false there is_there = tt

-- what a branch sends, where it goes again
request_repeats : (server : Server) (requests : List OpenRequest) (r : OpenRequest) (b : Branch) → Contains requests r → IsIn b r.branches → goes_again r b ≡ true
    → AllByRecursion (IsRetransmission server requests) (branch_packets server true r b)
request_repeats server requests r b there is_there goes =
    branch_repeats server requests r b (branch_packets server true r b) there is_there
    (all_weaker (Contains (branch_packets server true r b)) (Contains (branch_again server r b))
    (λ p one. Contains-append_left (cond (goes_again r b) (branch_packets server true r b) []) (acks_again server r b b.phase) p
    (subst (λ (t : Bool). Contains (cond t (branch_packets server true r b) []) p) (sym goes) one)) (branch_packets server true r b)
    (all_there (branch_packets server true r b)))

-- a moment that counts tells that its test passed
passes : (due now : ℕ) (t : Bool) → cond t (Some due) None ≡ Some now → t ≡ true
passes due now true e = refl
passes due now false e = absurd (cc)

-- at a moment
resent_repeats : (server : Server) (requests : List OpenRequest) (due : ℕ) (r : OpenRequest) (packets : List Packet) (next : OpenRequest) → Contains requests r
    → IsResent server due r packets next
    → AllByRecursion (IsRetransmission server requests) packets
resent_repeats server requests due r _ _ there (OfAnswer is) = answer_repeats server requests r there
resent_repeats server requests due r _ _ there (OfRequest b is_there is) =
    request_repeats server requests r b there (in_from_contains r.branches b is_there) (passes b.again.due due (goes_again r b) is)

-- ---- an effect

-- a copy, unless it is an ACK
copy_repeats : (server : Server) (requests : List OpenRequest) (r : OpenRequest) (t : Bool) → Contains requests r
    → AllByRecursion (IsRetransmission server requests) (cond t [] (answers_again r r.answer))
copy_repeats server requests r true there = tt
copy_repeats server requests r false there = answer_repeats server requests r there

-- a request that was let through
sending_repeats : (server : Server) (requests : List OpenRequest) (state : ProxyState) (a : Arrival) (m : Message) (q : Question) (id : ℕ) (targets : Targets)
    → AllByRecursion (IsRetransmission server requests) (sending server a m q id targets (counted a state)).again
sending_repeats server requests state a m q id Targets.NotFound = tt
sending_repeats server requests state a m q id Targets.Unavailable = tt
sending_repeats server requests state a m q id (Targets.Bindings targets) = tt
sending_repeats server requests state a m q id (Targets.Hop uri address) = tt

-- a REGISTER that was
registering_repeats : (server : Server) (requests : List OpenRequest) (state : ProxyState) (a : Arrival) (m : Message) (q : Question) (id : ℕ) (outcome : Registered)
    → AllByRecursion (IsRetransmission server requests) (registering server a m q id outcome (counted a state)).again
registering_repeats server requests state a m q id (Bound rows) = tt
registering_repeats server requests state a m q id (Refused status extras) = tt

-- a verdict on a message
effect_repeats : (server : Server) (state : ProxyState) (a : Arrival) (m : Message) (v : Verdict) → Fits state.requests m v
    → AllByRecursion (IsRetransmission server state.requests) (effect_of server a m v (counted a state)).again
effect_repeats server state a m Drop fits = tt
effect_repeats server state a m (Respond r b status) fits = ack_repeats server state.requests r b (is_failure status) (contains_from_in state.requests r fits.0) fits.1
effect_repeats server state a m (Copy r) fits = copy_repeats server state.requests r _ (contains_from_in state.requests r fits)
effect_repeats server state a m (AckOn address id) fits = tt
effect_repeats server state a m (Cancel None) fits = tt
effect_repeats server state a m (Cancel (Some r)) fits = tt
effect_repeats server state a m (Answer status extras) fits = tt
effect_repeats server state a m (InDialog address id) fits = tt
effect_repeats server state a m (Challenge q) fits = tt
effect_repeats server state a m (Deny q id) fits = tt
effect_repeats server state a m (Send q id targets) fits = sending_repeats server state.requests state a m q id targets
effect_repeats server state a m (Register q id outcome) fits = registering_repeats server state.requests state a m q id outcome

-- a datagram
datagram_repeats : (server : Server) (state : ProxyState) (a : Arrival) (o : Option (Message × Bool))
    → AllByRecursion (IsRetransmission server state.requests) (option_map_or (λ x. effect_of server a x.0 x.1 (counted a state)) (verdict_in server state a o)
    (nothing (counted a state))).again
datagram_repeats server state a None = tt
datagram_repeats server state a (Some x) = effect_repeats server state a x.0 (message_verdict server state a x.0 x.1) (verdict_fits server state a x.0 x.1)

-- a send that failed
branch_fault_repeats : (server : Server) (requests : List OpenRequest) (now : ℕ) (state : ProxyState) (r : OpenRequest) (o : Option Branch)
    → AllByRecursion (IsRetransmission server requests) (failed_branch server now state r o).again
branch_fault_repeats server requests now state r None = tt
branch_fault_repeats server requests now state r (Some b) = tt

fault_repeats : (server : Server) (requests : List OpenRequest) (now : ℕ) (ticket : Ticket) (state : ProxyState) (o : Option OpenRequest)
    → AllByRecursion (IsRetransmission server requests) (failed_request server now ticket state o).again
fault_repeats server requests now ticket state None = tt
fault_repeats server requests now ticket state (Some r) = branch_fault_repeats server requests now state r (find (is_failed ticket.branch) r.branches)

-- ---- a step

-- what goes again in a step is what may be sent again of a request that was open before it
pub step_repeats : (server : Server) (old : ProxyState) (act : Act) (out : StepOut) (new : ProxyState) → IsStep server old act out new
    → AllByRecursion (IsRetransmission server old.requests) (retransmissions out.packets)
step_repeats server old (Given (Datagram at word from bytes)) out new h =
    subst (AllByRecursion (IsRetransmission server old.requests)) (sym h.does.repeats)
    (datagram_repeats server old (arrival_of old at word from) (message_in (reading_of bytes)))
step_repeats server old (Given (Time at)) out new h = subst (AllByRecursion (IsRetransmission server old.requests)) (sym h.quiet.does.repeats) tt
step_repeats server old (Given (Fault at ticket)) out new h =
    let now = moment_of old at in
    subst (AllByRecursion (IsRetransmission server old.requests)) (sym h.does.repeats)
    (fault_repeats server old.requests now ticket (record old { moment = now }) (find (λ (r : OpenRequest). r.number == ticket.datagram) old.requests))
step_repeats server old (Passing at) out new (inl quiet) = subst (AllByRecursion (IsRetransmission server old.requests)) (sym quiet.does.repeats) tt
step_repeats server old (Passing at) out new (inr (inl due)) = subst (AllByRecursion (IsRetransmission server old.requests)) (sym due.does.repeats) tt
step_repeats server old (Passing at) out new (inr (inr goes)) =
    subst (AllByRecursion (IsRetransmission server old.requests)) (sym goes.does.repeats)
    (resent_repeats server old.requests out.at goes.request goes.packets goes.next goes.is_open goes.goes)
