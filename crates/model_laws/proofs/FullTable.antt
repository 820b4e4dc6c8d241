-- No more than 1,024 requests are open, over every history.
use Rattle.std.proofs.Common.{◌≡◌, ℕ, suc, ◌≤◌, ◌<◌, Bool, true, false, cond, ◌==◌, List, [], ◌∷◌, ◌++◌, codes, length, find, Option, Some, None, refl, sym, subst, arith}
use Rattle.std.proofs.Common.{nat_le, bytes_eq, inl, inr}
use Rattle.std.specs.Option.{option_map_or}
use Rattle.std.proofs.lemmas.Bool.Decides.{nat_tests}
use Rattle.std.proofs.lemmas.List.{length-append}
use Rattle.sip_message_form.specs.declared.message.Message.{Message}
use Rattle.sip_event.specs.declared.event.StepOut.{StepOut}
use Rattle.sip_event.specs.declared.event.Event.TheVariants.{Datagram, Time, Fault}
use Rattle.sip_event.specs.declared.packet.Ticket.{Ticket}
use Rattle.sip_targets.specs.declared.targets.Targets.{Targets}
use Rattle.sip_model.specs.state.declared.server.Server.{Server}
use Rattle.sip_model.specs.state.declared.branch.Branch.{Branch}
use Rattle.sip_model.specs.state.declared.open_request.OpenRequest.{OpenRequest}
use Rattle.sip_model.specs.state.declared.proxy_state.ProxyState.{ProxyState}
use Rattle.sip_model.specs.state.State.{first_state, has_left}
use Rattle.sip_model.specs.state.Arrival.{Arrival}
use Rattle.sip_model.specs.verdict_model.declared.question.Question.{Question}
use Rattle.sip_model.specs.verdict_model.Verdict.{Registered, Bound, Refused, Verdict, Drop, Respond, Copy, AckOn, Cancel, Answer, InDialog, Challenge, Deny, Send}
use Rattle.sip_model.specs.verdict_model.Verdict.{Register, is_full, verdict_of}
use Rattle.sip_model.specs.context_model.Branches.{cancelled, acknowledged, responded, send_failed}
use Rattle.sip_model.specs.steps_model.Effect.{Effect, replaced, opened, nothing, method_of, counted, effect_of, datagram_effect, registering, sending, cancelling}
use Rattle.sip_model.specs.steps_model.Effect.{copied}
use Rattle.sip_model.specs.steps_model.Step.{Act, Given, Passing, IsStep, is_failed, failed_branch, failed_request, fault_effect, arrival_of, moment_of}
use Rattle.sip_model.specs.Run.{Link, under, IsChain}

-- ---- the test

pub full_from : (n : ℕ) → nat_le 1024 n ≡ true → 1024 ≤ n
full_from n e = grind (arith, nat_tests)

pub full_with : (n : ℕ) → 1024 ≤ n → nat_le 1024 n ≡ true
full_with n h = grind (arith, nat_tests)

room_from : (n : ℕ) → nat_le 1024 n ≡ false → n < 1024
room_from n e = grind (arith, nat_tests)

-- ---- lists of open requests

-- a request in place of another leaves no more
replaced_no_more : (r : OpenRequest) (xs : List OpenRequest) → length (replaced r xs) ≤ length xs
replaced_no_more r [] = omega arith
replaced_no_more r (x ∷ xs) = by_tests (x.number == r.number) (has_left r) (replaced_no_more r xs) where
  by_tests : (s t : Bool) → length (replaced r xs) ≤ length xs → length (cond s (cond t xs (r ∷ xs)) (x ∷ replaced r xs)) ≤ suc (length xs)
  by_tests true true h = omega arith
  by_tests true false h = omega arith
  by_tests false t h = omega (arith, h)

-- so it leaves few where there were few
few_replaced : (r : OpenRequest) (xs : List OpenRequest) → length xs ≤ 1024 → length (replaced r xs) ≤ 1024
few_replaced r xs few = omega (arith, few, replaced_no_more r xs)

-- one more comes where there is room
few_opened : (r : OpenRequest) (state : ProxyState) → length state.requests ≤ 1024 → length (opened r state) ≤ 1024
few_opened r state few = by_test (is_full state) refl where
  by_test : (t : Bool) → is_full state ≡ t → length (cond t state.requests (state.requests ++ r ∷ [])) ≤ 1024
  by_test true e = few
  by_test false e = omega (arith, room_from (length state.requests) e, length-append state.requests (r ∷ []))

-- ---- effects

-- an effect leaves few
abbrev LeavesFew : Effect → Type 0
LeavesFew effect = length effect.state.requests ≤ 1024

few_copied : (a : Arrival) (m : Message) (r : OpenRequest) (state : ProxyState) → length state.requests ≤ 1024 → LeavesFew (copied a m r state)
few_copied a m r state few = by_test (bytes_eq (method_of m.start) (codes "ACK")) where
  by_test : (t : Bool) → length (cond t (record state { requests = replaced (acknowledged a.now r) state.requests }) state).requests ≤ 1024
  by_test true = few_replaced (acknowledged a.now r) state.requests few
  by_test false = few

few_cancelling : (server : Server) (a : Arrival) (m : Message) (found : Option OpenRequest) (state : ProxyState) → length state.requests ≤ 1024
    → LeavesFew (cancelling server a m found state)
few_cancelling server a m None state few = few_opened _ state few
few_cancelling server a m (Some r) state few = few_replaced (cancelled server a.now r).request _ (few_opened _ state few)

few_sending : (server : Server) (a : Arrival) (m : Message) (q : Question) (id : ℕ) (targets : Targets) (state : ProxyState) → length state.requests ≤ 1024
    → LeavesFew (sending server a m q id targets state)
few_sending server a m q id Targets.NotFound state few = few_opened _ state few
few_sending server a m q id Targets.Unavailable state few = few_opened _ state few
few_sending server a m q id (Targets.Bindings targets) state few = few_opened _ state few
few_sending server a m q id (Targets.Hop uri address) state few = few_opened _ state few

few_registering : (server : Server) (a : Arrival) (m : Message) (q : Question) (id : ℕ) (outcome : Registered) (state : ProxyState) → length state.requests ≤ 1024
    → LeavesFew (registering server a m q id outcome state)
few_registering server a m q id (Bound rows) state few = few_opened _ (record state { bindings = rows }) few
few_registering server a m q id (Refused status extras) state few = few_opened _ state few

few_by_verdict : (server : Server) (a : Arrival) (m : Message) (verdict : Verdict) (state : ProxyState)
    → length state.requests ≤ 1024 → LeavesFew (effect_of server a m verdict state)
few_by_verdict server a m Drop state few = few
few_by_verdict server a m (Respond r b status) state few = few_replaced (responded server a.now r b status m).request state.requests few
few_by_verdict server a m (Copy r) state few = few_copied a m r state few
few_by_verdict server a m (AckOn address id) state few = few
few_by_verdict server a m (Cancel found) state few = few_cancelling server a m found state few
few_by_verdict server a m (Answer status extras) state few = few_opened _ state few
few_by_verdict server a m (InDialog address id) state few = few_opened _ state few
few_by_verdict server a m (Challenge q) state few = few_opened _ state few
few_by_verdict server a m (Deny q id) state few = few_opened _ state few
few_by_verdict server a m (Send q id targets) state few = few_sending server a m q id targets state few
few_by_verdict server a m (Register q id outcome) state few = few_registering server a m q id outcome state few

few_by_datagram : (server : Server) (a : Arrival) (o : Option (Message × Verdict)) (state : ProxyState) → length state.requests ≤ 1024
    → LeavesFew (option_map_or (λ x. effect_of server a x.0 x.1 state) o (nothing state))
few_by_datagram server a None state few = few
few_by_datagram server a (Some x) state few = few_by_verdict server a x.0 x.1 state few

few_by_branch : (server : Server) (now : ℕ) (state : ProxyState) (r : OpenRequest) (o : Option Branch)
    → length state.requests ≤ 1024 → LeavesFew (failed_branch server now state r o)
few_by_branch server now state r None few = few
few_by_branch server now state r (Some b) few = few_replaced (send_failed server now r b).request state.requests few

few_by_fault : (server : Server) (now : ℕ) (ticket : Ticket) (state : ProxyState) (o : Option OpenRequest) → length state.requests ≤ 1024
    → LeavesFew (failed_request server now ticket state o)
few_by_fault server now ticket state None few = few
few_by_fault server now ticket state (Some r) few = few_by_branch server now state r (find (is_failed ticket.branch) r.branches) few

-- ---- steps and histories

-- what a state has that says the requests of an effect
as_left : (new : ProxyState) (requests : List OpenRequest) → new.requests ≡ requests → length requests ≤ 1024 → length new.requests ≤ 1024
as_left new requests e few = subst (λ (rs : List OpenRequest). length rs ≤ 1024) (sym e) few

few_by_step : (server : Server) (old : ProxyState) (act : Act) (out : StepOut) (new : ProxyState)
    → IsStep server old act out new → length old.requests ≤ 1024 → length new.requests ≤ 1024
few_by_step server old (Given (Datagram at word from bytes)) out new step few =
    let a : Arrival = arrival_of old at word from in
    as_left new (datagram_effect server old a bytes).state.requests step.does.leaves.requests
    (few_by_datagram server a (verdict_of server old a bytes) (counted a old) few)
few_by_step server old (Given (Time at)) out new step few = as_left new old.requests step.quiet.does.leaves.requests few
few_by_step server old (Given (Fault at ticket)) out new step few =
    as_left new (fault_effect server (moment_of old at) ticket (record old { moment = moment_of old at })).state.requests step.does.leaves.requests
    (few_by_fault server (moment_of old at) ticket (record old { moment = moment_of old at }) (find (λ (r : OpenRequest). r.number == ticket.datagram) old.requests) few)
few_by_step server old (Passing at) out new (inl quiet) few = as_left new old.requests quiet.does.leaves.requests few
few_by_step server old (Passing at) out new (inr (inl passed)) few =
    as_left new (replaced passed.change.request old.requests) passed.does.leaves.requests (few_replaced passed.change.request old.requests few)
few_by_step server old (Passing at) out new (inr (inr goes)) few = as_left new (replaced goes.next old.requests) goes.does.leaves.requests
    (few_replaced goes.next old.requests few)

pub few_of_chain : (server : Server) (first : ℕ) (history : List Link) (last : ProxyState) → IsChain server (first_state first) history last → length last.requests ≤ 1024
few_of_chain server first [] last e = subst (λ (state : ProxyState). length state.requests ≤ 1024) (sym e) (omega arith)
few_of_chain server first (link ∷ history) last chain =
    subst (λ (state : ProxyState). length state.requests ≤ 1024) (sym chain.0)
    (few_by_step (under server link.config) link.before link.act link.out link.after chain.1 (few_of_chain server first history link.before chain.2))
