-- In states that steps of the model led to no CANCEL is outstanding that could be sent at once; so each step from there hands out for the first time alone, or again
-- alone.
use Rattle.std.proofs.Common.{◌≡◌, ◌⊎◌, inl, inr, ◌∙◌, ℕ, ◌+◌, ◌≤◌, ◌==◌, Bool, true, false, not, ◌&&◌, cond, nat_le, List, [], ◌∷◌, ◌++◌, map, filter, flat_map, Option}
use Rattle.std.proofs.Common.{None, option_map, refl, sym, ap, subst, arith}
use Rattle.std.proofs.lemmas.Bool.Decides.{nat_tests}
use Rattle.std.specs.List.{AllByRecursion}
use Rattle.sip_message_form.specs.declared.message.Message.{Message}
use Rattle.sip_best.specs.Best.{best_of}
use Rattle.sip_event.specs.declared.packet.Packet.{Packet}
use Rattle.sip_event.specs.declared.event.StepOut.{StepOut}
use Rattle.model_steps.specs.state.declared.server.Server.{Server}
use Rattle.model_steps.specs.state.declared.branch.Branch.{Branch}
use Rattle.model_steps.specs.state.declared.branch.Phase.{Phase}
use Rattle.model_steps.specs.state.declared.branch.Phase.TheVariants.{Unheard, Heard, Cancelled, Done, Ended}
use Rattle.model_steps.specs.state.declared.open_request.OpenRequest.{OpenRequest}
use Rattle.model_steps.specs.state.declared.open_request.Upward.{Upward}
use Rattle.model_steps.specs.state.declared.open_request.Side.TheVariants.{Closed}
use Rattle.model_steps.specs.state.declared.proxy_state.ProxyState.{ProxyState}
use Rattle.model_steps.specs.state.declared.resend.Resend.{Resend}
use Rattle.model_steps.specs.state.State.{first_state, has_left, is_answering, is_failure, is_final, is_invite, is_provisional, is_success}
use Rattle.model_steps.specs.state.Arrival.{Arrival}
use Rattle.model_steps.specs.context_model.Sending.{ack_packets, branch_packets}
use Rattle.model_steps.specs.context_model.Branches.{Change, acknowledged, acknowledged_side, acks_of, after_upward, all_final, best_upward, branch_overdue, cancel_branch}
use Rattle.model_steps.specs.context_model.Branches.{further, given_up, heard, held_branch, is_cancellable, is_same_branch, marked, new_cancels, other_heard}
use Rattle.model_steps.specs.context_model.Branches.{relayed_provisional, relayed_success, responded, settled, target_responded, cancel_responded, upward_list, upward_of}
use Rattle.model_steps.specs.context_model.Branches.{was_refused, with_answer, with_cancel, with_cancels, with_phase}
use Rattle.model_steps.specs.context_model.Opening.{forking, tried, trying}
use Rattle.model_steps.specs.context_model.Retransmission.{IsResent, OfAnswer, OfRequest, acked_again, acks_again, branch_next, resent_branch}
use Rattle.model_steps.specs.Effect.{change_packets, replaced, upward_packets}
use Rattle.model_steps.specs.Step.{Act, IsStep, IsOverdue, OfSide, OfBranch, originals, retransmissions}
use Rattle.sip_model.specs.Order.{AreRising}
use Rattle.sip_model.specs.Run.{Link, under, IsChain}
use Rattle.sip_model.specs.Parts.{IsOpening, Answered, Sent, IsChangeAt, ByResponse, ByDeadline, ByFault, ByCancel, IsPart, Stays, Passes, Copies, TurnsAway, Opens}
use Rattle.sip_model.specs.Parts.{Changes, Resends, Acknowledges, AreParts, One, Two, HasParts}
use Rattle.model_transactions.specs.Matching.{AreBranched}
use Rattle.sip_model.proofs.Sent.{GoesOneWay}
use Rattle.sip_model.proofs.Places.{all_in, all_push, in_from_contains}

-- no branch of a list could be sent a CANCEL at once
abbrev IsDone : Branch → Type 0
IsDone b = is_cancellable b ≡ false

abbrev pub AreDone : OpenRequest → Type 0
AreDone r = AllByRecursion IsDone r.branches

-- ---- branches

-- what holds of two lists holds of both together
all_joined : (P : Branch → Type 0) (xs ys : List Branch) → AllByRecursion P xs → AllByRecursion P ys → AllByRecursion P (xs ++ ys)
all_joined P [] ys a b = b
all_joined P (x ∷ xs) ys a b = (a.0, all_joined P xs ys a.1 b)

ends_false : (t u : Bool) → (t && u && false) ≡ false
ends_false true true = refl
ends_false true false = refl
ends_false false true = refl
ends_false false false = refl

-- none is left once those that could be were sent one
with_cancels_done : (now : ℕ) (bs : List Branch) → AllByRecursion IsDone (flat_map (with_cancel now) bs)
with_cancels_done now [] = tt
with_cancels_done now (b ∷ bs) = all_joined IsDone (with_cancel now b) (flat_map (with_cancel now) bs) (by_test (is_cancellable b) refl) (with_cancels_done now bs) where
  by_test : (t : Bool) → is_cancellable b ≡ t → AllByRecursion IsDone (cond t (held_branch now b ∷ cancel_branch now b ∷ []) (b ∷ []))
  by_test true is = (ends_false (not b.is_cancel) b.wants_cancel, (refl, tt))
  by_test false is = (is, tt)

-- so none is found
none_done : (bs : List Branch) → AllByRecursion IsDone bs → filter is_cancellable bs ≡ []
none_done [] all = refl
none_done (b ∷ bs) all = ap (λ (t : Bool). cond t (b ∷ filter is_cancellable bs) (filter is_cancellable bs)) all.0 ∙ none_done bs all.1

-- ---- changes

abbrev LeavesDone : Change → Type 0
LeavesDone change = AreDone change.request

-- what settles leaves none
settled_done : (server : Server) (now : ℕ) (acks : List Packet) (relayed : Option Upward) (r : OpenRequest) → LeavesDone (settled server now acks relayed r)
settled_done server now acks relayed r =
    let told : OpenRequest = after_upward now relayed r in
    with_cancels_done now (after_upward now (best_upward server told) told).branches

either_done : (t : Bool) (one other : Change) → LeavesDone one → LeavesDone other → LeavesDone (cond t one other)
either_done true one other h k = h
either_done false one other h k = k

-- a response does
responded_done : (server : Server) (now : ℕ) (r : OpenRequest) (b : Branch) (status : ℕ) (m : Message) → LeavesDone (responded server now r b status m)
responded_done server now r b status m =
    either_done b.is_cancel (cancel_responded server now r b status m) (target_responded server now r b status m)
    (either_done (is_provisional status) _ _ (settled_done server now [] None (with_phase b (other_heard b.phase) r))
    (either_done (is_final b.phase) _ _ (settled_done server now [] None r) (settled_done server now [] None (with_phase b (Done (now + 5000) status) r))))
    (either_done (is_provisional status) _ _ (settled_done server now [] (relayed_provisional r b status m) (with_phase b (heard r now status b.phase) r))
    (either_done (is_final b.phase) _ _ (settled_done server now [] (further r b b.phase status m) r)
    (settled_done server now (acks_of server r b status m) (relayed_success r b status m) (with_answer r b now status m))))

-- a deadline does
overdue_done : (server : Server) (now : ℕ) (r : OpenRequest) (change : Change) → IsOverdue server now r change → LeavesDone change
overdue_done server now r _ (OfSide is) = settled_done server now [] None (record r { side = Closed })
overdue_done server now r _ (OfBranch b there is) = settled_done server now [] None (branch_overdue r b)

-- each change does
change_done : (server : Server) (state : ProxyState) (act : Act) (now : ℕ) (r : OpenRequest) (change : Change) (again : List Packet)
    → IsChangeAt server state act now r change again → LeavesDone change
change_done server state act now r _ _ (ByResponse a bytes m status reason b said start responding there) = responded_done server now r b status m
change_done server state act now r _ _ (ByDeadline change over) = overdue_done server now r change over
change_done server state act now r _ _ (ByFault at ticket b given number found) = settled_done server now [] None (given_up b 503 r)
change_done server state act now r _ _ (ByCancel a bytes m short key said method keyed found) =
    settled_done server now [] None (cond (is_invite r && is_answering r.side) (marked r) r)

-- ---- open requests

-- a request is opened without
opening_done : (server : Server) (a : Arrival) (m : Message) (r : OpenRequest) (firsts : List Packet) → IsOpening server a m r firsts → AreDone r
opening_done server a m _ _ (Answered status extras final) = tt
opening_done server a m _ _ (Sent first others begun) =
    let r : OpenRequest = forking a m (first ∷ others) in
    settled_done server a.now [] None (tried a.now (trying server r) r)

-- what goes again leaves them
resent_branches : (b : Branch) (next : Resend) (bs : List Branch) → AllByRecursion IsDone bs → AllByRecursion IsDone (map (resent_branch b next) bs)
resent_branches b next [] all = tt
resent_branches b next (x ∷ xs) all = (by_test (is_same_branch x b), resent_branches b next xs all.1) where
  by_test : (t : Bool) → IsDone (cond t (record x { again = next }) x)
  by_test true = all.0
  by_test false = all.0

resent_done : (server : Server) (now : ℕ) (r : OpenRequest) (packets : List Packet) (next : OpenRequest) → IsResent server now r packets next → AreDone r → AreDone next
resent_done server now r _ _ (OfAnswer is) h = h
resent_done server now r _ _ (OfRequest b there is) h = resent_branches b (branch_next r b) r.branches h

-- and so does an ACK
acknowledged_done : (now : ℕ) (r : OpenRequest) → AreDone r → AreDone (acknowledged now r)
acknowledged_done now r h = by_test (is_invite r && was_refused r.answer) where
  by_test : (t : Bool) → AreDone (cond t (record r { side = acknowledged_side now r.side }) r)
  by_test true = h
  by_test false = h

-- what holds of all, and of a request that stays open, holds of all once it replaced another
replaced_done : (new : OpenRequest) (rs : List OpenRequest) → AllByRecursion AreDone rs → AreDone new → AllByRecursion AreDone (replaced new rs)
replaced_done new [] all h = tt
replaced_done new (x ∷ xs) all h = by_test (x.number == new.number) (has_left new) (replaced_done new xs all.1 h) where
  by_test : (t left : Bool) → AllByRecursion AreDone (replaced new xs) → AllByRecursion AreDone (cond t (cond left xs (new ∷ xs)) (x ∷ replaced new xs))
  by_test true true rest = all.1
  by_test true false rest = (h, all.1)
  by_test false left rest = (all.0, rest)

-- a part of a step leaves none
part_done : (server : Server) (state : ProxyState) (act : Act) (now : ℕ) (requests after : List OpenRequest) (firsts again : List Packet)
    → IsPart server state act now requests after firsts again
    → AllByRecursion AreDone requests → AllByRecursion AreDone after
part_done server state act now requests after firsts again (Stays same none nothing) all = subst (AllByRecursion AreDone) (sym same) all
part_done server state act now requests after firsts again (Passes a m address within ack same sent nothing) all = subst (AllByRecursion AreDone) (sym same) all
part_done server state act now requests after firsts again (Copies a bytes m short key r said other keyed found same none goes) all =
    subst (AllByRecursion AreDone) (sym same) all
part_done server state act now requests after firsts again (TurnsAway a bytes m short r said keyed other opening full same nothing) all =
    subst (AllByRecursion AreDone) (sym same) all
part_done server state act now requests after firsts again (Opens a bytes m short r said keyed other moment opening room alone same nothing) all =
    subst (AllByRecursion AreDone) (sym same) (all_push AreDone requests r all (opening_done server a m r firsts opening))
part_done server state act now requests after firsts again (Changes r change there is same sent) all =
    subst (AllByRecursion AreDone) (sym same) (replaced_done change.request requests all (change_done server state act now r change again is))
part_done server state act now requests after firsts again (Resends r later there goes same none) all =
    subst (AllByRecursion AreDone) (sym same) (replaced_done later requests all (resent_done server now r again later goes
    (all_in AreDone requests r all (in_from_contains requests r there))))
part_done server state act now requests after firsts again (Acknowledges r there same none nothing) all =
    subst (AllByRecursion AreDone) (sym same) (replaced_done (acknowledged now r) requests all
    (acknowledged_done now r (all_in AreDone requests r all (in_from_contains requests r there))))

parts_done : (server : Server) (state : ProxyState) (act : Act) (now : ℕ) (requests after : List OpenRequest) (firsts again : List Packet)
    → AreParts server state act now requests after firsts again
    → AllByRecursion AreDone requests → AllByRecursion AreDone after
parts_done server state act now requests after firsts again (One part) all = part_done server state act now requests after firsts again part all
parts_done server state act now requests after firsts again (Two middle earlier r change part there kept is same sent nothing) all =
    subst (AllByRecursion AreDone) (sym same)
    (replaced_done change.request middle (part_done server state act now requests middle earlier [] part all) (change_done server state act now r change [] is))

-- ---- what one response sends

below_final : (status : ℕ) → nat_le 300 status ≡ true → nat_le status 199 ≡ false
below_final status e = let low : 300 ≤ status = grind (arith, nat_tests) in grind (arith, nat_tests)

no_success : (status : ℕ) → nat_le 300 status ≡ true → (nat_le 200 status && nat_le status 299) ≡ false
no_success status e =
    let low : 300 ≤ status = grind (arith, nat_tests) in
    let high : nat_le status 299 ≡ false = grind (arith, nat_tests) in
    by_test (nat_le 200 status) (nat_le status 299) high where
      by_test : (t u : Bool) → u ≡ false → (t && u) ≡ false
      by_test true u h = h
      by_test false u h = refl

-- of three
three_true : (t u v : Bool) → (t && not u && v) ≡ true → (u ≡ false) × (v ≡ true)
three_true true false true e = (refl, refl)
three_true true false false e = absurd (cc)
three_true true true v e = absurd (cc)
three_true false true v e = absurd (cc)
three_true false false v e = absurd (cc)

-- what is sent where nothing changed but that this goes up
abbrev sent_with : Server → ℕ → OpenRequest → Option Upward → List Packet
sent_with server now r best =
    let after : OpenRequest = after_upward now best r in
    upward_packets (with_cancels now after) (upward_list best) ++ flat_map (branch_packets server false after) (new_cancels now after)

-- where nothing goes up and nobody is to be cancelled, that is nothing
settled_sends_nothing : (server : Server) (now : ℕ) (r : OpenRequest) → best_upward server r ≡ None → filter is_cancellable r.branches ≡ []
    → change_packets (settled server now [] None r) ≡ []
settled_sends_nothing server now r none done = ap (sent_with server now r) none ∙ ap (λ (bs : List Branch).
    flat_map (branch_packets server false r) (map (cancel_branch now) bs)) done

module _ (server : Server) (now : ℕ) (r : OpenRequest) (b : Branch) (status : ℕ) (m : Message) (none : best_upward server r ≡ None)
    (done : filter is_cancellable r.branches ≡ []) where
  -- what a final answer makes of it, where the branch has one, and where it has none
  abbrev further_change : Change
  further_change = settled server now [] (further r b b.phase status m) r

  abbrev first_change : Change
  first_change = settled server now (acks_of server r b status m) (relayed_success r b status m) (with_answer r b now status m)

  -- a further final answer that is no 2xx sends nothing for the first time
  further_nothing : (due first : ℕ) → b.phase ≡ Done due first → is_failure status ≡ true → b.is_cancel ≡ false → is_failure first ≡ true
      → change_packets (responded server now r b status m) ≡ []
  further_nothing due first is failed target was =
      ap (λ (t : Bool). change_packets (cond t (cancel_responded server now r b status m) (target_responded server now r b status m))) target
      ∙ ap (λ (t : Bool). change_packets (cond t (settled server now [] (relayed_provisional r b status m) (with_phase b (heard r now status b.phase) r))
      (cond (is_final b.phase) further_change first_change))) (below_final status failed)
      ∙ ap (λ (t : Bool). change_packets (cond t further_change first_change)) (ap is_final is)
      ∙ ap (λ (phase : Phase). change_packets (settled server now [] (further r b phase status m) r)) is
      ∙ ap (λ (o : Option Upward). change_packets (settled server now [] o r)) unsent
      ∙ settled_sends_nothing server now r none done where
        by_test : (t : Bool) → (t && is_success first) ≡ false
        by_test true = no_success first was
        by_test false = refl

        unsent : further r b (Done due first) status m ≡ None
        unsent = ap (λ (t : Bool). cond t (relayed_success r b status m) None) (by_test (is_invite r))

  -- a response sends for the first time alone, or again alone
  response_one_way : (change_packets (responded server now r b status m) ≡ []) ⊎ (acked_again server r b status ≡ [])
  response_one_way = by_status (is_failure status) refl where
    by_acked : (due first : ℕ) → b.phase ≡ Done due first → is_failure status ≡ true → (t : Bool) → (is_invite r && not b.is_cancel && is_failure first) ≡ t
        → (change_packets (responded server now r b status m) ≡ []) ⊎ (cond t (ack_packets server true r b b.final_to) [] ≡ [])
    by_acked due first is failed true e = let both = three_true (is_invite r) b.is_cancel (is_failure first) e in inl (further_nothing due first is failed both.0 both.1)
    by_acked due first is failed false e = inr refl

    by_phase : (phase : Phase) → b.phase ≡ phase → is_failure status ≡ true → (change_packets (responded server now r b status m) ≡ [])
        ⊎ (acks_again server r b phase ≡ [])
    by_phase (Unheard due) is failed = inr refl
    by_phase (Heard due) is failed = inr refl
    by_phase (Cancelled due) is failed = inr refl
    by_phase (Done due first) is failed = by_acked due first is failed (is_invite r && not b.is_cancel && is_failure first) refl
    by_phase Ended is failed = inr refl

    by_status : (t : Bool) → is_failure status ≡ t → (change_packets (responded server now r b status m) ≡ []) ⊎ (cond t (acks_again server r b b.phase) [] ≡ [])
    by_status true e = by_phase b.phase refl e
    by_status false e = inr refl

-- a request that owes its answer waits for a branch, so none goes up where nothing changed
none_goes_up : (server : Server) (r : OpenRequest) → (is_answering r.side ≡ true → all_final r ≡ false) → best_upward server r ≡ None
none_goes_up server r waits = ap (λ (t : Bool). cond t (option_map (upward_of server r) (best_of r.finals)) None) (by_side (is_answering r.side) refl) where
  by_side : (t : Bool) → is_answering r.side ≡ t → (t && all_final r) ≡ false
  by_side true e = waits e
  by_side false e = refl

-- ---- steps

-- a change does
change_one_way : (server : Server) (state : ProxyState) (act : Act) (now : ℕ) (r : OpenRequest) (change : Change) (again : List Packet)
    → IsChangeAt server state act now r change again
    → (is_answering r.side ≡ true → all_final r ≡ false) → AreDone r → (change_packets change ≡ []) ⊎ (again ≡ [])
change_one_way server state act now r _ _ (ByResponse a bytes m status reason b said start responding there) waits done =
    response_one_way server now r b status m (none_goes_up server r waits) (none_done r.branches done)
change_one_way server state act now r _ _ (ByDeadline change over) waits done = inr refl
change_one_way server state act now r _ _ (ByFault at ticket b given number found) waits done = inr refl
change_one_way server state act now r _ _ (ByCancel a bytes m short key said method keyed found) waits done = inr refl

-- each part of a step does
part_one_way : (server : Server) (state : ProxyState) (act : Act) (now : ℕ) (requests after : List OpenRequest) (firsts again : List Packet)
    → IsPart server state act now requests after firsts again
    → AllByRecursion (λ (r : OpenRequest). is_answering r.side ≡ true → all_final r ≡ false) requests → AllByRecursion AreDone requests → (firsts ≡ []) ⊎ (again ≡ [])
part_one_way server state act now requests after firsts again (Stays same none nothing) waits done = inl none
part_one_way server state act now requests after firsts again (Passes a m address within ack same sent nothing) waits done = inr nothing
part_one_way server state act now requests after firsts again (Copies a bytes m short key r said other keyed found same none goes) waits done = inl none
part_one_way server state act now requests after firsts again (TurnsAway a bytes m short r said keyed other opening full same nothing) waits done = inr nothing
part_one_way server state act now requests after firsts again (Opens a bytes m short r said keyed other moment opening room alone same nothing) waits done = inr nothing
part_one_way server state act now requests after firsts again (Changes r change there is same sent) waits done =
    by_change (change_one_way server state act now r change again is (all_in _ requests r waits (in_from_contains requests r there))
    (all_in AreDone requests r done (in_from_contains requests r there))) where
      by_change : (change_packets change ≡ []) ⊎ (again ≡ []) → (firsts ≡ []) ⊎ (again ≡ [])
      by_change (inl none) = inl (sent ∙ none)
      by_change (inr nothing) = inr nothing
part_one_way server state act now requests after firsts again (Resends r later there goes same none) waits done = inl none
part_one_way server state act now requests after firsts again (Acknowledges r there same none nothing) waits done = inl none

parts_one_way : (server : Server) (state : ProxyState) (act : Act) (now : ℕ) (requests after : List OpenRequest) (firsts again : List Packet)
    → AreParts server state act now requests after firsts again
    → AllByRecursion (λ (r : OpenRequest). is_answering r.side ≡ true → all_final r ≡ false) requests → AllByRecursion AreDone requests → (firsts ≡ []) ⊎ (again ≡ [])
parts_one_way server state act now requests after firsts again (One part) waits done = part_one_way server state act now requests after firsts again part waits done
parts_one_way server state act now requests after firsts again (Two middle earlier r change part there kept is same sent nothing) waits done = inr nothing

-- what is known of histories
pub record Histories : Type 0 where
  pub parts : (server : Server) (old : ProxyState) (act : Act) (out : StepOut) (new : ProxyState) → IsStep server old act out new → HasParts server old act out new
  pub waits : (server : Server) (first : ℕ) (history : List Link) (last : ProxyState) → IsChain server (first_state first) history last
      → AllByRecursion (λ (r : OpenRequest). is_answering r.side ≡ true → all_final r ≡ false) last.requests
  pub rising : (server : Server) (first : ℕ) (history : List Link) (last : ProxyState) → IsChain server (first_state first) history last → AreRising last.requests
  pub branched : (server : Server) (first : ℕ) (history : List Link) (last : ProxyState) → IsChain server (first_state first) history last
      → AllByRecursion (λ (r : OpenRequest). AreBranched r.branches) last.requests

module _ (laws : Histories) (server : Server) (first : ℕ) where
  -- none is outstanding after a history
  chain_done : (history : List Link) (last : ProxyState) → IsChain server (first_state first) history last → AllByRecursion AreDone last.requests
  chain_done [] last chain = subst (λ (s : ProxyState). AllByRecursion AreDone s.requests) (sym chain) tt
  chain_done (link ∷ history) last chain =
      let has : HasParts (under server link.config) link.before link.act link.out link.after =
      laws.parts (under server link.config) link.before link.act link.out link.after chain.1 in
      subst (λ (s : ProxyState). AllByRecursion AreDone s.requests) (sym chain.0)
      (parts_done (under server link.config) link.before link.act link.after.moment link.before.requests link.after.requests (originals link.out.packets)
      (retransmissions link.out.packets) has.parts
      (chain_done history link.before chain.2))

  -- so a step goes one way
  pub step_one_way : (history : List Link) (state : ProxyState) → IsChain server (first_state first) history state → (act : Act) (out : StepOut) (new : ProxyState)
      → IsStep server state act out new
      → GoesOneWay out.packets
  step_one_way history state chain act out new step =
      let has : HasParts server state act out new = laws.parts server state act out new step in
      parts_one_way server state act new.moment state.requests new.requests (originals out.packets) (retransmissions out.packets) has.parts
      (laws.waits server first history state chain) (chain_done history state chain)
