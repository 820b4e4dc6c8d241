-- Each step of what is due leaves fewer of them, and each packet that the fault of another hands out leaves one deadline fewer.
use Rattle.std.proofs.Common.{max, ◌≡◌, ◌⊎◌, inl, inr, ℕ, suc, ◌+◌, ◌-◌, ◌*◌, ◌≤◌, ◌<◌, Bool, true, false, not, cond, ◌==◌, List, [], ◌∷◌, ◌++◌, map, length}
use Rattle.std.proofs.Common.{length-append, Option, Some, None, refl, sym, ap, subst, ◌∙◌, arith, sum_by, count_by, flat_map, filter}
use Rattle.std.specs.Prelude.{find, nat_le, nat_lt}
use Rattle.std.proofs.lemmas.Bool.Decides.{nat_tests}
use Rattle.std.proofs.lemmas.Nat.{mul-le}
use Rattle.std.proofs.Math.Nat.{mul-suc, suc-mul}
use Rattle.std.specs.Option.{option_map_or}
use Rattle.sip_message_form.specs.Text.{text_of}
use Rattle.std.proofs.lemmas.List.{length-map}
use Rattle.std.proofs.lemmas.List.Filters.{length-filter_both}
use Rattle.std.proofs.lemmas.List.Sums.{length-filter, sum_by-cons}
use Rattle.sip_event.specs.declared.event.Event.TheVariants.{Fault}
use Rattle.sip_event.specs.declared.event.StepOut.{StepOut}
use Rattle.sip_event.specs.declared.packet.Packet.{Packet}
use Rattle.sip_event.specs.declared.packet.Ticket.{Ticket}
use Rattle.sip_uri.specs.declared.addr.Addr.{Addr}
use Rattle.model_steps.specs.state.declared.server.Server.{Server}
use Rattle.model_steps.specs.state.declared.branch.Phase.{Phase}
use Rattle.model_steps.specs.state.declared.branch.Phase.TheVariants.{Unheard, Heard, Cancelled, Done, Ended}
use Rattle.model_steps.specs.state.declared.branch.Branch.{Branch}
use Rattle.model_steps.specs.state.declared.open_request.OpenRequest.{OpenRequest}
use Rattle.model_steps.specs.state.declared.open_request.Side.TheVariants.{Closed}
use Rattle.model_steps.specs.state.declared.open_request.Upward.{Upward}
use Rattle.model_steps.specs.state.declared.proxy_state.ProxyState.{ProxyState}
use Rattle.model_steps.specs.state.State.{first_state, is_invite, phase_deadline}
use Rattle.model_steps.specs.context_model.Branches.{Change, after_upward, best_upward, branch_overdue, cancel_branch, given_up, is_cancellable, is_same_branch}
use Rattle.model_steps.specs.context_model.Branches.{is_unheard, new_cancels, send_failed, settled, target_overdue, upward_list, with_cancel, with_phase, held_branch}
use Rattle.model_steps.specs.context_model.Sending.{branch_packets, sent_of, ticket_branch}
use Rattle.model_steps.specs.context_model.Retransmission.{IsResent, OfAnswer, OfRequest, branch_next, resent_branch}
use Rattle.model_steps.specs.Effect.{Effect, change_packets, replaced, upward_packets}
use Rattle.model_steps.specs.Step.{Given, Passing, IsDeadline, IsFault, IsOverdue, IsResend, OfBranch, OfSide, failed_branch, failed_request, fault_effect, is_failed}
use Rattle.model_steps.specs.Step.{moment_of, originals, retransmissions}
use Rattle.sip_model.specs.Run.{Link, IsChain}
use Rattle.sip_model.specs.Order.{ByDeadline, ByFault, deadlines_left, is_numbered, side_left}
use Rattle.sip_model.specs.Ends.{again_by, parts_left, sends_left, steps_left, time_left}
use Rattle.sip_model.proofs.Again.{chain_again}
use Rattle.sip_model.proofs.DeadlinesLeft.{branches_left, ended, ended_left, ended_not_more, ends_left, map_left, passed_left, resent_left, settled_left, upward_left}
use Rattle.sip_model.proofs.DeadlinesLeft.{last_true}
use Rattle.sip_model.proofs.DeadlinesLeft.{wanted_left}
use Rattle.sip_model.proofs.Events.{change_event, resent_number}
use Rattle.sip_model.proofs.FirstDue.{fewer_due}
use Rattle.sip_model.proofs.Moments.{moment_of_chain_rises}
use Rattle.sip_model.proofs.Orders.{chain_named}
use Rattle.sip_model.proofs.Places.{IsIn, all_in, contains_from_in, found_in, in_from_contains, count_cons, sum_replaced}
use Rattle.sip_model.proofs.Resending.{IsAgain}
use Rattle.sip_model.proofs.Settling.{event_number}
use Rattle.sip_model.proofs.Steps.{step_taken}

-- ---- parts

-- each CANCEL that is sent is one branch more
with_cancels_length : (now : ℕ) (bs : List Branch) → length (flat_map (with_cancel now) bs) ≡ length bs + count_by is_cancellable bs
with_cancels_length now [] = refl
with_cancels_length now (b ∷ bs) =
    let one : length (flat_map (with_cancel now) (b ∷ bs)) ≡ length (b ∷ bs) + (cond {A = ℕ} (is_cancellable b) 1 0 + count_by is_cancellable bs) =
    by_test (is_cancellable b) (with_cancels_length now bs) in
    omega (arith, one, count_cons is_cancellable b bs) where
      by_test : (t : Bool) → length (flat_map (with_cancel now) bs) ≡ length bs + count_by is_cancellable bs
          → length (cond t (held_branch now b ∷ cancel_branch now b ∷ []) (b ∷ []) ++ flat_map (with_cancel now) bs)
          ≡ length (b ∷ bs) + (cond {A = ℕ} t 1 0 + count_by is_cancellable bs)
      by_test true is = omega (arith, is)
      by_test false is = omega (arith, is)

-- settling leaves no more parts
settled_parts : (server : Server) (now : ℕ) (r : OpenRequest) → parts_left (settled server now [] None r).request ≤ parts_left r
settled_parts server now r =
    let best : Option Upward = best_upward server r in
    let same = (upward_left now best r).1 in
    let long : length (flat_map (with_cancel now) (after_upward now best r).branches) ≡ length r.branches + count_by is_cancellable r.branches =
    ap (λ (bs : List Branch). length (flat_map (with_cancel now) bs)) same ∙ with_cancels_length now r.branches in
    omega (arith, long, settled_left server now r)

-- an open request between a deadline and what follows it has as many branches, and no more deadlines left
record IsBetween (r between : OpenRequest) : Type 0 where
  branches : length between.branches ≡ length r.branches
  left : deadlines_left between ≤ deadlines_left r

ended_between : (r between : OpenRequest) (b : Branch) → between.side ≡ r.side → between.branches ≡ map (ended b) r.branches → IsBetween r between
ended_between r between b side branches =
    let fewer : branches_left (map (ended b) r.branches) ≤ branches_left r.branches = map_left (ended b) r.branches (λ x. ended_not_more b x (is_same_branch x b)) in
    record { branches = ap length branches ∙ length-map r.branches (ended b); left = omega (arith, ap side_left side, ap branches_left branches, fewer) }

heard_between : (r : OpenRequest) (b : Branch) (t : Bool) → IsBetween r (cond t (record r
    { branches = map (λ (x : Branch). cond (is_same_branch x b) (record x { wants_cancel = true }) x) r.branches }) (given_up b 408 r))
heard_between r b true = record {
  branches = length-map r.branches (λ (x : Branch). cond (is_same_branch x b) (record x { wants_cancel = true }) x);
  left = omega (arith, wanted_left b r.branches);
}
heard_between r b false = ended_between r (given_up b 408 r) b refl refl

target_between : (r : OpenRequest) (b : Branch) (phase : Phase) → IsBetween r (target_overdue r b phase)
target_between r b (Unheard due) = ended_between r (given_up b 408 r) b refl refl
target_between r b (Heard due) = heard_between r b (is_invite r)
target_between r b (Cancelled due) = ended_between r (given_up b 487 r) b refl refl
target_between r b (Done due f) = ended_between r (with_phase b Ended r) b refl refl
target_between r b Ended = record { branches = refl; left = omega arith }

branch_between : (r : OpenRequest) (b : Branch) (t : Bool) → IsBetween r (cond t (with_phase b Ended r) (target_overdue r b b.phase))
branch_between r b true = ended_between r (with_phase b Ended r) b refl refl
branch_between r b false = target_between r b b.phase

settles : (server : Server) (now : ℕ) (r between : OpenRequest) → IsBetween r between → parts_left (settled server now [] None between).request ≤ parts_left r
settles server now r between h = omega (arith, settled_parts server now between, h.branches, h.left)

-- a deadline that passes leaves no more parts
passed_parts : (server : Server) (due : ℕ) (r : OpenRequest) (change : Change) → IsOverdue server due r change → parts_left change.request ≤ parts_left r
passed_parts server due r _ (OfSide e) = settles server due r (record r { side = Closed }) (record { branches = refl; left = omega arith })
passed_parts server due r _ (OfBranch b there e) = settles server due r (branch_overdue r b) (branch_between r b b.is_cancel)

-- nor does what goes again
resent_parts : (server : Server) (due : ℕ) (r : OpenRequest) (packets : List Packet) (next : OpenRequest) → IsResent server due r packets next
    → parts_left next ≤ parts_left r
resent_parts server due r packets next h = omega (arith, resent_left server due r packets next h, same packets next h) where
  same : (ps : List Packet) (x : OpenRequest) → IsResent server due r ps x → length x.branches ≡ length r.branches
  same _ _ (OfAnswer is) = refl
  same _ _ (OfRequest b there is) = length-map r.branches (resent_branch b (branch_next r b))

-- not more of them go again than there are
counts_few : (p : Branch → Bool) (bs : List Branch) → count_by p bs ≤ length bs
counts_few p [] = omega arith
counts_few p (b ∷ bs) = omega (arith, counts_few p bs, count_cons p b bs, one (p b)) where
  one : (t : Bool) → cond {A = ℕ} t 1 0 ≤ 1
  one true = omega arith
  one false = omega arith

few_again : (moment : ℕ) (r : OpenRequest) → again_by moment r ≤ parts_left r
few_again moment r = omega (arith, counts_few (λ (b : Branch). nat_le b.again.due moment) r.branches, one (nat_le r.again.due moment)) where
  one : (t : Bool) → cond {A = ℕ} t 1 0 ≤ 1
  one true = omega arith
  one false = omega arith

few_all : (moment : ℕ) (rs : List OpenRequest) → sum_by (again_by moment) rs ≤ sum_by parts_left rs
few_all moment [] = omega arith
few_all moment (r ∷ rs) = omega (arith, few_all moment rs, few_again moment r, sum_by-cons (again_by moment) r rs, sum_by-cons parts_left r rs)

-- ---- numbers

mul_le : (a m b n : ℕ) → a ≤ m → b ≤ n → a * b ≤ m * n
mul_le a m b n first second = mul-le a b m n first second

-- less of the second factor is less of the product, by more than one of the first can make up
product_less : (p q x y a b : ℕ) → q ≤ p → y + 1 ≤ x → b ≤ q → (q + 1) * y + b < (p + 1) * x + a
product_less p q x y a b fewer less few =
    let grown : (q + 1) * suc y ≤ (p + 1) * x = mul_le (q + 1) (p + 1) (suc y) x (omega (arith, fewer)) (omega (arith, less)) in
    let cut : (q + 1) * suc y ≡ (q + 1) * y + (q + 1) = mul-suc (q + 1) y in
    omega (arith, grown, cut, few)

product_same : (p q x y a b : ℕ) → q ≤ p → y ≤ x → b + 1 ≤ a → (q + 1) * y + b < (p + 1) * x + a
product_same p q x y a b fewer less few =
    let grown : (q + 1) * y ≤ (p + 1) * x = mul_le (q + 1) (p + 1) y x (omega (arith, fewer)) less in
    omega (arith, grown, few)

-- one deadline fewer is more than all time that is left
time_by_deadline : (l k most m n : ℕ) → k + 1 ≤ l → k * (most + 2) + (most + 1 - n) + 1 ≤ l * (most + 2) + (most + 1 - m)
time_by_deadline l k most m n fewer =
    let grown : suc k * (most + 2) ≤ l * (most + 2) = mul_le (suc k) l (most + 2) (most + 2) (omega (arith, fewer)) (omega arith) in
    let cut : suc k * (most + 2) ≡ k * (most + 2) + (most + 2) = suc-mul k (most + 2) in
    omega (arith, grown, cut)

time_by_moment : (l k most m n : ℕ) → k ≤ l → m ≤ n → k * (most + 2) + (most + 1 - n) ≤ l * (most + 2) + (most + 1 - m)
time_by_moment l k most m n fewer later =
    let grown : k * (most + 2) ≤ l * (most + 2) = mul_le k l (most + 2) (most + 2) fewer (omega arith) in
    omega (arith, grown, later)

time_later : (l k most m n : ℕ) → k ≤ l → m + 1 ≤ n → n ≤ most → k * (most + 2) + (most + 1 - n) + 1 ≤ l * (most + 2) + (most + 1 - m)
time_later l k most m n fewer later by =
    let grown : k * (most + 2) ≤ l * (most + 2) = mul_le k l (most + 2) (most + 2) fewer (omega arith) in
    omega (arith, grown, later, by)

-- ---- steps

-- a step by a moment, which comes no nearer, and which leaves no more parts and no more deadlines
record Leaves (at : ℕ) (old new : ProxyState) : Type 0 where
  most : moment_of new at ≡ moment_of old at
  rises : old.moment ≤ new.moment
  by : new.moment ≤ moment_of old at
  parts : sum_by parts_left new.requests ≤ sum_by parts_left old.requests
  left : sends_left new ≤ sends_left old

module _ (at : ℕ) (old new : ProxyState) (h : Leaves at old new) where
  -- what is left of time then
  abbrev left_then : ℕ
  left_then = sends_left new * (moment_of old at + 2) + (moment_of old at + 1 - new.moment)

  then_is : time_left at new ≡ left_then
  then_is = ap (λ (most : ℕ). sends_left new * (most + 2) + (most + 1 - new.moment)) h.most

  by_product : left_then + 1 ≤ time_left at old → steps_left at new < steps_left at old
  by_product less =
      subst (λ (x : ℕ). (sum_by parts_left new.requests + 1) * x + sum_by (again_by new.moment) new.requests < steps_left at old) (sym then_is)
      (product_less (sum_by parts_left old.requests) (sum_by parts_left new.requests) (time_left at old) left_then (sum_by (again_by old.moment) old.requests)
      (sum_by (again_by new.moment) new.requests) h.parts less
      (few_all new.moment new.requests))

  by_deadline : sends_left new + 1 ≤ sends_left old → steps_left at new < steps_left at old
  by_deadline fewer = by_product (time_by_deadline (sends_left old) (sends_left new) (moment_of old at) old.moment new.moment fewer)

  by_moment : old.moment + 1 ≤ new.moment → steps_left at new < steps_left at old
  by_moment later = by_product (time_later (sends_left old) (sends_left new) (moment_of old at) old.moment new.moment h.left later h.by)

  by_part : sum_by (again_by new.moment) new.requests + 1 ≤ sum_by (again_by old.moment) old.requests → steps_left at new < steps_left at old
  by_part fewer =
      subst (λ (x : ℕ). (sum_by parts_left new.requests + 1) * x + sum_by (again_by new.moment) new.requests < steps_left at old) (sym then_is)
      (product_same (sum_by parts_left old.requests) (sum_by parts_left new.requests) (time_left at old) left_then (sum_by (again_by old.moment) old.requests)
      (sum_by (again_by new.moment) new.requests) h.parts
      (time_by_moment (sends_left old) (sends_left new) (moment_of old at) old.moment new.moment h.left h.rises) fewer)

-- the moments of a step
leaves : (at : ℕ) (old new : ProxyState) (requests : List OpenRequest) (stands : ℕ) → new.requests ≡ requests → new.moment ≡ stands → old.moment ≤ new.moment
    → stands ≤ moment_of old at
    → sum_by parts_left requests ≤ sum_by parts_left old.requests → sum_by deadlines_left requests ≤ sum_by deadlines_left old.requests → Leaves at old new
leaves at old new requests stands same is rises by parts left = record {
  most = omega (arith, is, rises, by);
  rises = rises;
  by = omega (arith, is, by);
  parts = subst (λ (rs : List OpenRequest). sum_by parts_left rs ≤ sum_by parts_left old.requests) (sym same) parts;
  left = subst (λ (rs : List OpenRequest). sum_by deadlines_left rs ≤ sum_by deadlines_left old.requests) (sym same) left;
}

module _ (server : Server) (first : ℕ) (history : List Link) (old new : ProxyState) (at : ℕ) (out : StepOut)
    (chain : IsChain server (first_state first) history old) where
  deadline_ends : IsDeadline server old at out new → steps_left at new < steps_left at old
  deadline_ends d =
      let there : IsIn d.request old.requests = in_from_contains old.requests d.request d.is_open in
      let named = chain_named server first history old chain in
      let number = event_number server out.at d.request d.change (change_event server out.at d.request d.change (ByDeadline d.change d.passes)) in
      let left : sum_by deadlines_left (replaced d.change.request old.requests) + 1 ≤ sum_by deadlines_left old.requests =
      sum_replaced deadlines_left 1 d.change.request d.request old.requests there number (named.numbers.differ d.request.number)
      (passed_left server out.at d.request d.change d.passes) in
      let each = passed_parts server out.at d.request d.change d.passes in
      let parts : sum_by parts_left (replaced d.change.request old.requests) + 0 ≤ sum_by parts_left old.requests =
      sum_replaced parts_left 0 d.change.request d.request old.requests there number (named.numbers.differ d.request.number) (omega (arith, each)) in
      let rises : old.moment ≤ new.moment = moment_of_chain_rises server first (record { config = server.config; before = old; act = Passing at; out = out; after = new })
      history new (refl, inr (inl d), chain) in
      by_deadline at old new
      (leaves at old new (replaced d.change.request old.requests) out.at d.does.leaves.requests d.does.leaves.moment rises d.is_due (omega (arith, parts))
      (omega (arith, left)))
      (subst (λ (rs : List OpenRequest). sum_by deadlines_left rs + 1 ≤ sum_by deadlines_left old.requests) (sym d.does.leaves.requests) left)

  resend_ends : IsResend server old at out new → steps_left at new < steps_left at old
  resend_ends d =
      let there : IsIn d.request old.requests = in_from_contains old.requests d.request d.is_open in
      let named = chain_named server first history old chain in
      let number = resent_number server out.at d.request d.packets d.next d.goes in
      let one = resent_left server out.at d.request d.packets d.next d.goes in
      let left : sum_by deadlines_left (replaced d.next old.requests) + 0 ≤ sum_by deadlines_left old.requests =
      sum_replaced deadlines_left 0 d.next d.request old.requests there number (named.numbers.differ d.request.number) (omega (arith, one)) in
      let each = resent_parts server out.at d.request d.packets d.next d.goes in
      let parts : sum_by parts_left (replaced d.next old.requests) + 0 ≤ sum_by parts_left old.requests =
      sum_replaced parts_left 0 d.next d.request old.requests there number (named.numbers.differ d.request.number) (omega (arith, each)) in
      let rises : old.moment ≤ new.moment = moment_of_chain_rises server first (record { config = server.config; before = old; act = Passing at; out = out; after = new })
      history new (refl, inr (inr d), chain) in
      let h : Leaves at old new = leaves at old new (replaced d.next old.requests) out.at d.does.leaves.requests d.does.leaves.moment rises d.is_due
      (omega (arith, parts)) (omega (arith, left)) in
      by_case h (nat_lt old.moment new.moment) refl rises d.does.leaves.moment there number (named.numbers.differ d.request.number) where
        by_case : Leaves at old new → (t : Bool) → nat_lt old.moment new.moment ≡ t → old.moment ≤ new.moment → new.moment ≡ out.at → IsIn d.request old.requests
            → d.next.number ≡ d.request.number
            → count_by (is_numbered d.request.number) old.requests ≤ 1 → steps_left at new < steps_left at old
        by_case h true is rises stands there number few = by_moment at old new h (let later : old.moment < new.moment = grind (arith, nat_tests, is) in
            omega (arith, later))
        by_case h false is rises stands there number few =
            let still : out.at ≡ old.moment = (let late : new.moment ≤ old.moment = grind (arith, nat_tests, is) in omega (arith, late, rises, stands)) in
            let again : IsAgain out.at d.request = subst (λ (n : ℕ). IsAgain n d.request) (sym still)
            (all_in (IsAgain old.moment) old.requests d.request (chain_again server first history old chain) there) in
            let fewer : sum_by (again_by out.at) (replaced d.next old.requests) + 1 ≤ sum_by (again_by out.at) old.requests =
            sum_replaced (again_by out.at) 1 d.next d.request old.requests there number few (fewer_due server out.at d.request d.packets d.next d.goes again) in
            by_part at old new h
            (subst (λ (n : ℕ). sum_by (again_by n) new.requests + 1 ≤ sum_by (again_by old.moment) old.requests) (sym stands)
            (subst (λ (rs : List OpenRequest). sum_by (again_by out.at) rs + 1 ≤ sum_by (again_by old.moment) old.requests) (sym d.does.leaves.requests)
            (subst (λ (n : ℕ). sum_by (again_by out.at) (replaced d.next old.requests) + 1 ≤ sum_by (again_by n) old.requests) still fewer)))

-- what is due ends
pub ends : (server : Server) (first : ℕ) (history : List Link) (old new : ProxyState) (at : ℕ) (out : StepOut) → IsChain server (first_state first) history old
    → IsDeadline server old at out new ⊎ IsResend server old at out new → steps_left at new < steps_left at old
ends server first history old new at out chain (inl d) = deadline_ends server first history old new at out chain d
ends server first history old new at out chain (inr d) = resend_ends server first history old new at out chain d

-- ---- faults

-- a branch sends one packet at most
one_packet : (server : Server) (r : OpenRequest) (b : Branch) → length (branch_packets server false r b) ≤ 1
one_packet server r b = by_address b.address where
  by_address : (o : Option Addr) → length {A = Packet} (option_map_or (λ (address : Addr).
      record { to = address; bytes = text_of (sent_of server r b); ticket = record { datagram = r.number; branch = ticket_branch b }; again = false } ∷ []) o []) ≤ 1
  by_address None = omega arith
  by_address (Some address) = omega arith

few_packets : (server : Server) (r : OpenRequest) (bs : List Branch) → length (flat_map (branch_packets server false r) bs) ≤ length bs
few_packets server r [] = omega arith
few_packets server r (b ∷ bs) = omega (
  arith,
  few_packets server r bs,
  one_packet server r b,
  length-append (branch_packets server false r b) (flat_map (branch_packets server false r) bs),
)

one_upward : (o : Option Upward) → length (upward_list o) ≤ 1
one_upward None = omega arith
one_upward (Some u) = omega arith

-- what a branch that could not be sent to hands out, each packet at a deadline less
failed_fewer : (server : Server) (now : ℕ) (r : OpenRequest) (b : Branch) (due : ℕ) → IsIn b r.branches → phase_deadline b.phase ≡ Some due
    → deadlines_left (send_failed server now r b).request + length (change_packets (send_failed server now r b)) ≤ deadlines_left r
failed_fewer server now r b due there e =
    let between : OpenRequest = given_up b 503 r in
    let best : Option Upward = best_upward server between in
    let after : OpenRequest = after_upward now best between in
    let same = (upward_left now best between).1 in
    let cancels : length (flat_map (branch_packets server false after) (new_cancels now after)) ≤ length (new_cancels now after) =
    few_packets server after (new_cancels now after) in
    let many : length (new_cancels now after) ≡ count_by is_cancellable after.branches = length-map (filter is_cancellable after.branches) (cancel_branch now)
    ∙ length-filter is_cancellable after.branches in
    let counted : count_by is_cancellable after.branches ≡ count_by is_cancellable between.branches = ap (count_by is_cancellable) same in
    let up : length (upward_packets (send_failed server now r b).request (upward_list best)) ≡ length (upward_list best) = length-map (upward_list best) _ in
    let whole : length (change_packets (send_failed server now r b))
    ≡ length (upward_packets (send_failed server now r b).request (upward_list best)) + length (flat_map (branch_packets server false after) (new_cancels now after)) =
    length-append (upward_packets (send_failed server now r b).request (upward_list best)) (flat_map (branch_packets server false after) (new_cancels now after)) in
    omega (arith, settled_left server now between, ended_left b r.branches due there e, cancels, many, counted, up, whole, one_upward best)

unheard_due : (phase : Phase) → is_unheard phase ≡ true → (due : ℕ) × (phase_deadline phase ≡ Some due)
unheard_due (Unheard due) e = (due, refl)
unheard_due (Heard due) e = absurd (cc)
unheard_due (Cancelled due) e = absurd (cc)
unheard_due (Done due f) e = absurd (cc)
unheard_due Ended e = absurd (cc)

-- all that a step sends, by what goes for the first time and what goes again
all_packets : (packets : List Packet) → length packets ≡ length (originals packets) + length (retransmissions packets)
all_packets packets =
    let both = length-filter_both (λ (p : Packet). p.again) (λ (p : Packet). not p.again) (λ p. refl) packets in
    omega (arith, both)

module _ (server : Server) (state : ProxyState) (now : ℕ) (ticket : Ticket) (numbered : (number : ℕ) → count_by (is_numbered number) state.requests ≤ 1) where
  -- an effect that hands out no more than it leaves fewer
  abbrev IsFewer : Effect → Type 0
  IsFewer effect = (length effect.originals + sum_by deadlines_left effect.state.requests ≤ sum_by deadlines_left state.requests) × (effect.again ≡ [])

  branch_fewer : (r : OpenRequest) (o : Option Branch) → IsIn r state.requests → ((b : Branch) → o ≡ Some b → IsIn b r.branches × (is_failed ticket.branch b ≡ true))
      → IsFewer (failed_branch server now (record state { moment = now }) r o)
  branch_fewer r None there found = (omega arith, refl)
  branch_fewer r (Some b) there found =
      let is = found b refl in
      let due = unheard_due b.phase (last_true (not b.is_cancel) (b.number == ticket.branch) (is_unheard b.phase) is.1) in
      let change : Change = send_failed server now r b in
      let one = failed_fewer server now r b due.0 is.0 due.1 in
      let number = event_number server now r change (change_event server now r change (ByFault b ticket.branch (contains_from_in r.branches b is.0) is.1)) in
      let total : sum_by deadlines_left (replaced change.request state.requests) + length (change_packets change) ≤ sum_by deadlines_left state.requests =
      sum_replaced deadlines_left (length (change_packets change)) change.request r state.requests there number (numbered r.number) one in
      (omega (arith, total), refl)

  request_fewer : (o : Option OpenRequest) → ((r : OpenRequest) → o ≡ Some r → IsIn r state.requests)
      → IsFewer (failed_request server now ticket (record state { moment = now }) o)
  request_fewer None there = (omega arith, refl)
  request_fewer (Some r) there = branch_fewer r (find (is_failed ticket.branch) r.branches) (there r refl) (λ b e. found_in (is_failed ticket.branch) r.branches b e)

  fault_fewer : IsFewer (fault_effect server now ticket (record state { moment = now }))
  fault_fewer = request_fewer (find (λ (r : OpenRequest). r.number == ticket.datagram) state.requests)
      (λ r e. (found_in (λ (x : OpenRequest). x.number == ticket.datagram) state.requests r e).0)

  -- an effect that changes no request, or leaves fewer deadlines and no more parts
  abbrev IsNoMore : Effect → Type 0
  IsNoMore effect =
      (effect.state.requests ≡ state.requests)
      ⊎ ((sum_by deadlines_left effect.state.requests + 1 ≤ sum_by deadlines_left state.requests)
      × (sum_by parts_left effect.state.requests ≤ sum_by parts_left state.requests))

  branch_no_more : (r : OpenRequest) (o : Option Branch) → IsIn r state.requests → ((b : Branch) → o ≡ Some b → IsIn b r.branches × (is_failed ticket.branch b ≡ true))
      → IsNoMore (failed_branch server now (record state { moment = now }) r o)
  branch_no_more r None there found = inl refl
  branch_no_more r (Some b) there found =
      let is = found b refl in
      let due = unheard_due b.phase (last_true (not b.is_cancel) (b.number == ticket.branch) (is_unheard b.phase) is.1) in
      let change : Change = send_failed server now r b in
      let number = event_number server now r change (change_event server now r change (ByFault b ticket.branch (contains_from_in r.branches b is.0) is.1)) in
      let fewer : sum_by deadlines_left (replaced change.request state.requests) + 1 ≤ sum_by deadlines_left state.requests =
      sum_replaced deadlines_left 1 change.request r state.requests there number (numbered r.number)
      (ends_left server now due.0 r (given_up b 503 r) b is.0 due.1 refl refl) in
      let one = settles server now r (given_up b 503 r) (ended_between r (given_up b 503 r) b refl refl) in
      let parts : sum_by parts_left (replaced change.request state.requests) + 0 ≤ sum_by parts_left state.requests =
      sum_replaced parts_left 0 change.request r state.requests there number (numbered r.number) (omega (arith, one)) in
      inr (fewer, omega (arith, parts))

  request_no_more : (o : Option OpenRequest) → ((r : OpenRequest) → o ≡ Some r → IsIn r state.requests)
      → IsNoMore (failed_request server now ticket (record state { moment = now }) o)
  request_no_more None there = inl refl
  request_no_more (Some r) there = branch_no_more r (find (is_failed ticket.branch) r.branches) (there r refl) (λ b e. found_in (is_failed ticket.branch) r.branches b e)

  fault_no_more : IsNoMore (fault_effect server now ticket (record state { moment = now }))
  fault_no_more = request_no_more (find (λ (r : OpenRequest). r.number == ticket.datagram) state.requests)
      (λ r e. (found_in (λ (x : OpenRequest). x.number == ticket.datagram) state.requests r e).0)

-- sends that fail end
pub fault_ends : (server : Server) (first : ℕ) (history : List Link) (old new : ProxyState) (at : ℕ) (ticket : Ticket) (out : StepOut)
    → IsChain server (first_state first) history old
    → IsFault server old at ticket out new → length out.packets + sends_left new ≤ sends_left old
fault_ends server first history old new at ticket out chain h =
    let named = chain_named server first history old chain in
    let now : ℕ = moment_of old at in
    let effect : Effect = fault_effect server now ticket (record old { moment = now }) in
    let fewer = fault_fewer server old now ticket named.numbers.differ in
    let first_sent : length (originals out.packets) ≡ length effect.originals = ap length h.does.sends in
    let sent_again : length (retransmissions out.packets) ≡ 0 = ap length (h.does.repeats ∙ fewer.1) in
    let left : sends_left new ≡ sum_by deadlines_left effect.state.requests = ap (sum_by deadlines_left) h.does.leaves.requests in
    omega (arith, fewer.0, all_packets out.packets, first_sent, sent_again, left)

-- and leave no more of what is due
pub fault_leaves : (server : Server) (first : ℕ) (history : List Link) (old new : ProxyState) (ticket : Ticket) (out : StepOut) (at : ℕ)
    → IsChain server (first_state first) history old
    → IsFault server old old.moment ticket out new → steps_left at new ≤ steps_left at old
fault_leaves server first history old new ticket out at chain h = by_effect (fault_no_more server old (moment_of old old.moment) ticket
    (chain_named server first history old chain).numbers.differ) where
      stands : new.moment ≡ old.moment
      stands = let is = (step_taken server old (Given (Fault old.moment ticket)) out new h).is_at in omega (arith, is)

      by_effect : IsNoMore server old (moment_of old old.moment) ticket (chain_named server first history old chain).numbers.differ
          (fault_effect server (moment_of old old.moment) ticket (record old { moment = moment_of old old.moment }))
          → steps_left at new ≤ steps_left at old
      by_effect (inl same) =
          let requests : new.requests ≡ old.requests = h.does.leaves.requests ∙ same in
          let e : steps_left at new ≡ steps_left at old =
          ap (λ (rs : List OpenRequest). (sum_by parts_left rs + 1) * (sum_by deadlines_left rs * (moment_of new at + 2) + (moment_of new at + 1 - new.moment)) + sum_by
          (again_by new.moment) rs) requests
          ∙ ap (λ (m : ℕ). (sum_by parts_left old.requests + 1) * (sum_by deadlines_left old.requests * (max m at + 2) + (max m at + 1 - m)) + sum_by (again_by m)
          old.requests) stands in
          omega (arith, e)
      by_effect (inr less) =
          let left : sends_left new + 1 ≤ sends_left old = subst (λ (rs : List OpenRequest). sum_by deadlines_left rs + 1 ≤ sum_by deadlines_left old.requests)
          (sym h.does.leaves.requests) less.0 in
          let parts : sum_by parts_left new.requests ≤ sum_by parts_left old.requests = subst
          (λ (rs : List OpenRequest). sum_by parts_left rs ≤ sum_by parts_left old.requests) (sym h.does.leaves.requests) less.1 in
          let falls = by_deadline at old new (record {
            most = omega (arith, stands);
            rises = omega (arith, stands);
            by = omega (arith, stands);
            parts = parts;
            left = omega (arith, left);
          }) left in
          omega (arith, falls)
