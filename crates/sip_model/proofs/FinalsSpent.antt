-- How often the last answer of an open request may still go again by time: nothing that changes the request leaves more.
use Rattle.std.proofs.Common.{◌≡◌, ◌⊎◌, inl, inr, ℕ, ◌+◌, ◌≤◌, Bool, true, false, not, ◌&&◌, ◌||◌, cond, ◌==◌, List, [], ◌∷◌, map, Option, Some, None, option_map, refl}
use Rattle.std.proofs.Common.{sym, ap, subst, ◌∙◌, arith, flat_map, bytes_eq, codes}
use Rattle.std.specs.List.{AllByRecursion}
use Rattle.std.proofs.lemmas.Bool.Decides.{nat_tests}
use Rattle.sip_message_form.specs.declared.message.Message.{Message}
use Rattle.sip_event.specs.declared.packet.Packet.{Packet}
use Rattle.model_steps.specs.state.declared.server.Server.{Server}
use Rattle.model_steps.specs.state.declared.branch.Phase.{Phase}
use Rattle.model_steps.specs.state.declared.branch.Phase.TheVariants.{Unheard, Heard, Cancelled, Done, Ended}
use Rattle.model_steps.specs.state.declared.branch.Branch.{Branch}
use Rattle.model_steps.specs.state.declared.resend.Resend.{Resend}
use Rattle.model_steps.specs.state.declared.open_request.LastAnswer.{LastAnswer}
use Rattle.model_steps.specs.state.declared.open_request.Side.{Side}
use Rattle.model_steps.specs.state.declared.open_request.Side.TheVariants.{Answering, Closing, Acknowledged, Closed}
use Rattle.model_steps.specs.state.declared.open_request.OpenRequest.{OpenRequest}
use Rattle.model_steps.specs.state.declared.open_request.Upward.{Upward}
use Rattle.model_steps.specs.state.declared.proxy_state.ProxyState.{ProxyState}
use Rattle.model_steps.specs.state.State.{first_resend, is_invite, is_answering, is_final, is_success, is_decline, is_provisional}
use Rattle.model_steps.specs.context_model.Branches.{Change, is_same_branch, turned, phased, with_phase, with_final, marked_branch, marked, given_up, all_final}
use Rattle.model_steps.specs.context_model.Branches.{best_upward, upward_of, is_cancellable, cancel_branch, held_branch, with_cancel, answered, after_upward, settled}
use Rattle.model_steps.specs.context_model.Branches.{heard, other_heard, relayed_from, relayed_provisional, has_success, is_closing, is_accepted, relayed_success, linger}
use Rattle.model_steps.specs.context_model.Branches.{final_of, told_to, with_answer, acks_of, further, target_responded, cancel_responded, responded, target_overdue}
use Rattle.model_steps.specs.context_model.Branches.{branch_overdue, was_refused, acknowledged, acknowledged_side}
use Rattle.sip_best.specs.Best.{best_of}
use Rattle.sip_best.specs.declared.final_answer.Final.{Final}
use Rattle.model_steps.specs.context_model.Retransmission.{resend_after}
use Rattle.model_steps.specs.Step.{Act, IsOverdue, OfSide, OfBranch}
use Rattle.sip_model.specs.Parts.{IsChangeAt, ByResponse, ByDeadline, ByFault, ByCancel}
use Rattle.model_transactions.specs.Copies.{IsTimely, answer_copies_left}
use Rattle.sip_model.proofs.SendingLists.{all_joined}
use Rattle.sip_model.proofs.DeadlinesLeft.{last_true}

-- ---- the laws on what goes again

-- what may still go again, and when
pub record TimerLaws : Type 0 where
  pub first_timely : (now : ℕ) → IsTimely (now + 32000) (first_resend now)
  pub again_timely : (until most : ℕ) (again : Resend) → 4000 ≤ most → IsTimely until again → IsTimely until (resend_after most again)
  pub begins : (now : ℕ) (a : LastAnswer) → was_refused (Some a) ≡ true → answer_copies_left (Closing (now + 32000)) (Some a) (first_resend now) ≡ 10
  pub one_less : (until : ℕ) (a : LastAnswer) (again : Resend) → was_refused (Some a) ≡ true → IsTimely until again → again.due ≤ until
      → answer_copies_left (Closing until) (Some a) (resend_after 4000 again) + 1 ≡ answer_copies_left (Closing until) (Some a) again
  pub no_more_answered : (now : ℕ) (r : OpenRequest) (u : Upward) → is_answering r.side ≡ true
      → answer_copies_left (answered now u r).side (answered now u r).answer (answered now u r).again ≤ answer_copies_left r.side r.answer r.again
  pub no_more_further : (now : ℕ) (r : OpenRequest) (u : Upward) → is_accepted r ≡ true → is_success u.status ≡ true
      → answer_copies_left (answered now u r).side (answered now u r).answer (answered now u r).again ≤ answer_copies_left r.side r.answer r.again
  pub no_more_acknowledged : (now : ℕ) (r : OpenRequest)
      → answer_copies_left (acknowledged now r).side (acknowledged now r).answer (acknowledged now r).again ≤ answer_copies_left r.side r.answer r.again

-- ---- requests

-- how often the last answer of a request may still go again by time
abbrev pub copies_left : OpenRequest → ℕ
copies_left r = answer_copies_left r.side r.answer r.again

-- the branches of a request are numbered from 1 on
abbrev pub AreTargets : List Branch → Type 0
AreTargets bs = AllByRecursion (λ (b : Branch). 1 ≤ b.number) bs

-- an answer that goes again by time does so before its deadline, and its branches have numbers
pub record IsTimed (r : OpenRequest) : Type 0 where
  pub timely : (until : ℕ) → r.side ≡ Closing until → was_refused r.answer ≡ true → IsTimely until r.again
  pub targets : AreTargets r.branches

-- what became of a request, of which no more may go again
pub record IsNoMore (r x : OpenRequest) : Type 0 where
  pub number_is : x.number ≡ r.number
  pub key_is : x.key ≡ r.key
  pub fewer : copies_left x ≤ copies_left r
  pub timed : IsTimed x

-- a request whose answer is as it was
pub record IsKin (r x : OpenRequest) : Type 0 where
  pub number_is : x.number ≡ r.number
  pub key_is : x.key ≡ r.key
  pub side_is : x.side ≡ r.side
  pub answer_is : x.answer ≡ r.answer
  pub again_is : x.again ≡ r.again
  pub targets : AreTargets x.branches

-- no more of it may go again
kin_no_more : (r x : OpenRequest) → IsTimed r → IsKin r x → IsNoMore r x
kin_no_more r x h kin =
    let same : copies_left x ≡ copies_left r = λ i. answer_copies_left (kin.side_is i) (kin.answer_is i) (kin.again_is i) in
    record {
      number_is = kin.number_is;
      key_is = kin.key_is;
      fewer = omega arith;
      timed = record {
        timely = λ until closing refused. subst (IsTimely until) (sym kin.again_is) (h.timely until (sym kin.side_is ∙ closing)
            (sym (ap was_refused kin.answer_is) ∙ refused));
        targets = kin.targets;
      };
    }

-- ---- what goes to the caller

-- what may go to the caller: anything while an answer is owed, and a further 2xx of an INVITE
abbrev pub MayGo : OpenRequest → Option Upward → Type 0
MayGo r None = Unit {0}
MayGo r (Some u) = (is_answering r.side ≡ true) ⊎ ((is_accepted r ≡ true) × (is_success u.status ≡ true))

-- the same of a request whose answer is as it was
may_go_kin : (r x : OpenRequest) (o : Option Upward) → IsKin r x → MayGo r o → MayGo x o
may_go_kin r x None kin h = tt
may_go_kin r x (Some u) kin (inl owes) = inl (ap is_answering kin.side_is ∙ owes)
may_go_kin r x (Some u) kin (inr further) =
    let same : is_accepted x ≡ is_accepted r = λ i. bytes_eq (kin.key_is i).method (codes "INVITE") && is_closing (kin.side_is i) && has_success (kin.answer_is i) in
    inr (same ∙ further.0, further.1)

-- a 2xx is none of 300 to 699
success_stands : (status : ℕ) → is_success status ≡ true → was_refused (Some (record { status = status; text = [] })) ≡ true → ⊥
success_stands status success refused = grind (arith, nat_tests)

-- nor is a provisional answer
provisional_stands : (status : ℕ) → is_provisional status ≡ true → was_refused (Some (record { status = status; text = [] })) ≡ true → ⊥
provisional_stands status provisional refused = grind (arith, nat_tests)

-- a side that closes now does so in 32,000 ms
closes_then : (now until : ℕ) → Closing (now + 32000) ≡ Closing until → now + 32000 ≡ until
closes_then now until e = cc

-- what is sent now goes again in time
answered_timely : TimerLaws → (now : ℕ) (x : OpenRequest) (u : Upward) → MayGo x (Some u) → (until : ℕ) → (answered now u x).side ≡ Closing until
    → was_refused (answered now u x).answer ≡ true → IsTimely until (first_resend now)
answered_timely laws now x u (inr further) until closing refused = absurd (success_stands u.status further.1 refused)
answered_timely laws now x u (inl owes) until closing refused = by_test (is_answering x.side) (is_provisional u.status) owes refl closing where
  by_test : (s t : Bool) → s ≡ true → is_provisional u.status ≡ t → cond (s && not t) (Closing (now + 32000)) x.side ≡ Closing until → IsTimely until (first_resend now)
  by_test true true is provisional e = absurd (provisional_stands u.status provisional refused)
  by_test true false is final e = subst (λ (moment : ℕ). IsTimely moment (first_resend now)) (closes_then now until e) (laws.first_timely now)
  by_test false t is final e = absurd (cc)

-- no more goes again once it went
pub upward_no_more : TimerLaws → (now : ℕ) (o : Option Upward) (r x : OpenRequest) → MayGo x o → IsNoMore r x → IsNoMore r (after_upward now o x)
upward_no_more laws now None r x may h = h
upward_no_more laws now (Some u) r x may h = record {
  number_is = h.number_is;
  key_is = h.key_is;
  fewer = fewer may;
  timed = record { timely = answered_timely laws now x u may; targets = h.timed.targets };
} where
  fewer : MayGo x (Some u) → copies_left (answered now u x) ≤ copies_left r
  fewer (inl owes) = let less = laws.no_more_answered now x u owes in let before = h.fewer in omega (arith, less, before)
  fewer (inr further) = let less = laws.no_more_further now x u further.0 further.1 in let before = h.fewer in omega (arith, less, before)

-- the best answer goes while one is owed
best_may_go : (server : Server) (r : OpenRequest) → MayGo r (best_upward server r)
best_may_go server r = by_test (is_answering r.side) (all_final r) (best_of r.finals) refl where
  by_test : (s t : Bool) (o : Option Final) → is_answering r.side ≡ s → MayGo r (cond (s && t) (option_map (upward_of server r) o) None)
  by_test true true None is = tt
  by_test true true (Some f) is = inl is
  by_test true false o is = tt
  by_test false t o is = tt

-- ---- branches

-- what keeps the number of each branch
pub map_targets : (f : Branch → Branch) (bs : List Branch) → ((b : Branch) → (f b).number ≡ b.number) → AreTargets bs → AreTargets (map f bs)
map_targets f [] same all = tt
map_targets f (b ∷ bs) same all = (subst (λ (n : ℕ). 1 ≤ n) (sym (same b)) all.0, map_targets f bs same all.1)

-- a phase
phased_targets : (b : Branch) (phase : Phase) (bs : List Branch) → AreTargets bs → AreTargets (map (phased b phase) bs)
phased_targets b phase bs all = map_targets (phased b phase) bs (λ x. by_test x (is_same_branch x b)) all where
  by_test : (x : Branch) (t : Bool) → (cond t (turned b phase x) x).number ≡ x.number
  by_test x true = refl
  by_test x false = refl

-- what is to be cancelled
marked_targets : (bs : List Branch) → AreTargets bs → AreTargets (map marked_branch bs)
marked_targets bs all = map_targets marked_branch bs (λ x. by_test x (x.is_cancel || is_final x.phase)) all where
  by_test : (x : Branch) (t : Bool) → (cond t x (record x { wants_cancel = true })).number ≡ x.number
  by_test x true = refl
  by_test x false = refl

-- a branch with its CANCEL
with_cancel_targets : (now : ℕ) (bs : List Branch) → AreTargets bs → AreTargets (flat_map (with_cancel now) bs)
with_cancel_targets now [] all = tt
with_cancel_targets now (b ∷ bs) all = all_joined (λ (x : Branch). 1 ≤ x.number) (with_cancel now b) (flat_map (with_cancel now) bs) (by_test (is_cancellable b))
    (with_cancel_targets now bs all.1) where
      by_test : (t : Bool) → AreTargets (cond t (held_branch now b ∷ cancel_branch now b ∷ []) (b ∷ []))
      by_test true = (all.0, (all.0, tt))
      by_test false = (all.0, tt)

-- ---- settling

-- settling leaves no more
pub settled_no_more : TimerLaws → (server : Server) (now : ℕ) (acks : List Packet) (relayed : Option Upward) (r x : OpenRequest) → MayGo x relayed → IsNoMore r x
    → IsNoMore r (settled server now acks relayed x).request
settled_no_more laws server now acks relayed r x may h =
    let told : OpenRequest = after_upward now relayed x in
    let first : IsNoMore r told = upward_no_more laws now relayed r x may h in
    let last : IsNoMore r (after_upward now (best_upward server told) told) = upward_no_more laws now (best_upward server told) r told (best_may_go server told) first in
    record {
      number_is = last.number_is;
      key_is = last.key_is;
      fewer = last.fewer;
      timed = record { timely = last.timed.timely; targets = with_cancel_targets now (after_upward now (best_upward server told) told).branches last.timed.targets };
    }

-- so it does of a request whose answer is as it was
kin_settled : TimerLaws → (server : Server) (now : ℕ) (acks : List Packet) (relayed : Option Upward) (r x : OpenRequest) → IsTimed r → MayGo r relayed → IsKin r x
    → IsNoMore r (settled server now acks relayed x).request
kin_settled laws server now acks relayed r x timed may kin = settled_no_more laws server now acks relayed r x (may_go_kin r x relayed kin may) (kin_no_more r x timed kin)

-- a request whose branches alone change
same_kin : (r : OpenRequest) (bs : List Branch) → AreTargets bs → IsKin r (record r { branches = bs })
same_kin r bs all = record { number_is = refl; key_is = refl; side_is = refl; answer_is = refl; again_is = refl; targets = all }

-- a branch in another phase
phase_kin : (r : OpenRequest) (b : Branch) (phase : Phase) → IsTimed r → IsKin r (with_phase b phase r)
phase_kin r b phase h = same_kin r (map (phased b phase) r.branches) (phased_targets b phase r.branches h.targets)

-- a branch that is given up
given_up_kin : (r : OpenRequest) (b : Branch) (status : ℕ) → IsTimed r → IsKin r (given_up b status r)
given_up_kin r b status h = record {
  number_is = refl;
  key_is = refl;
  side_is = refl;
  answer_is = refl;
  again_is = refl;
  targets = phased_targets b Ended r.branches h.targets;
}

-- ---- a response

-- what goes up if it is chosen
chosen_may_go : (r : OpenRequest) (u : Upward) (t : Bool) → (t ≡ true → MayGo r (Some u)) → MayGo r (cond t (Some u) None)
chosen_may_go r u true h = h refl
chosen_may_go r u false h = tt

-- a provisional response
provisional_may_go : (r : OpenRequest) (b : Branch) (status : ℕ) (m : Message) → MayGo r (relayed_provisional r b status m)
provisional_may_go r b status m = chosen_may_go r (relayed_from b status m) (not (status == 100) && not (is_final b.phase) && is_answering r.side)
    (λ is. inl (last_true (not (status == 100)) (not (is_final b.phase)) (is_answering r.side) is))

-- a 2xx
success_may_go : (r : OpenRequest) (b : Branch) (status : ℕ) (m : Message) → MayGo r (relayed_success r b status m)
success_may_go r b status m = chosen_may_go r (relayed_from b status m) (is_success status && (is_answering r.side || is_accepted r))
    (λ is. by_tests (is_success status) (is_answering r.side) (is_accepted r) refl refl refl is) where
      by_tests : (s t u : Bool) → is_success status ≡ s → is_answering r.side ≡ t → is_accepted r ≡ u → (s && (t || u)) ≡ true
          → (is_answering r.side ≡ true) ⊎ ((is_accepted r ≡ true) × (is_success status ≡ true))
      by_tests true true u success owes accepted is = inl owes
      by_tests true false true success owes accepted is = inr (accepted, success)
      by_tests true false false success owes accepted is = absurd (cc)
      by_tests false t u success owes accepted is = absurd (cc)

-- a further one
further_may_go : (r : OpenRequest) (b : Branch) (phase : Phase) (status : ℕ) (m : Message) → MayGo r (further r b phase status m)
further_may_go r b (Done due first) status m = by_test (is_invite r && is_success first) where
  by_test : (t : Bool) → MayGo r (cond t (relayed_success r b status m) None)
  by_test true = success_may_go r b status m
  by_test false = tt
further_may_go r b (Unheard due) status m = tt
further_may_go r b (Heard due) status m = tt
further_may_go r b (Cancelled due) status m = tt
further_may_go r b Ended status m = tt

-- the first final answer of a branch
final_kin : (now : ℕ) (r : OpenRequest) (b : Branch) (status : ℕ) (m : Message) → IsTimed r → IsKin r (with_answer r b now status m)
final_kin now r b status m h = by_test (is_invite r && (is_success status || is_decline status)) where
  before : OpenRequest
  before = with_final (final_of status m) (with_phase (told_to r b status m) (Done (now + linger r) status) r)

  targets : AreTargets before.branches
  targets = phased_targets (told_to r b status m) (Done (now + linger r) status) r.branches h.targets

  by_test : (t : Bool) → IsKin r (cond t (marked before) before)
  by_test true = record { number_is = refl; key_is = refl; side_is = refl; answer_is = refl; again_is = refl; targets = marked_targets before.branches targets }
  by_test false = record { number_is = refl; key_is = refl; side_is = refl; answer_is = refl; again_is = refl; targets = targets }

-- a response to the request of a branch
target_no_more : TimerLaws → (server : Server) (now : ℕ) (r : OpenRequest) (b : Branch) (status : ℕ) (m : Message) → IsTimed r
    → IsNoMore r (target_responded server now r b status m).request
target_no_more laws server now r b status m h = by_test (is_provisional status) (is_final b.phase) where
  by_test : (t u : Bool)
      → IsNoMore r (cond t (settled server now [] (relayed_provisional r b status m) (with_phase b (heard r now status b.phase) r))
      (cond u (settled server now [] (further r b b.phase status m) r)
      (settled server now (acks_of server r b status m) (relayed_success r b status m) (with_answer r b now status m)))).request
  by_test true u = kin_settled laws server now [] (relayed_provisional r b status m) r (with_phase b (heard r now status b.phase) r) h (provisional_may_go r b status m)
      (phase_kin r b (heard r now status b.phase) h)
  by_test false true = kin_settled laws server now [] (further r b b.phase status m) r r h (further_may_go r b b.phase status m) (same_kin r r.branches h.targets)
  by_test false false = kin_settled laws server now (acks_of server r b status m) (relayed_success r b status m) r (with_answer r b now status m) h
      (success_may_go r b status m) (final_kin now r b status m h)

-- one to a CANCEL
cancel_no_more : TimerLaws → (server : Server) (now : ℕ) (r : OpenRequest) (b : Branch) (status : ℕ) (m : Message) → IsTimed r
    → IsNoMore r (cancel_responded server now r b status m).request
cancel_no_more laws server now r b status m h = by_test (is_provisional status) (is_final b.phase) where
  by_test : (t u : Bool)
      → IsNoMore r (cond t (settled server now [] None (with_phase b (other_heard b.phase) r))
      (cond u (settled server now [] None r) (settled server now [] None (with_phase b (Done (now + 5000) status) r)))).request
  by_test true u = kin_settled laws server now [] None r (with_phase b (other_heard b.phase) r) h tt (phase_kin r b (other_heard b.phase) h)
  by_test false true = kin_settled laws server now [] None r r h tt (same_kin r r.branches h.targets)
  by_test false false = kin_settled laws server now [] None r (with_phase b (Done (now + 5000) status) r) h tt (phase_kin r b (Done (now + 5000) status) h)

-- any
response_no_more : TimerLaws → (server : Server) (now : ℕ) (r : OpenRequest) (b : Branch) (status : ℕ) (m : Message) → IsTimed r
    → IsNoMore r (responded server now r b status m).request
response_no_more laws server now r b status m h = by_test b.is_cancel where
  by_test : (t : Bool) → IsNoMore r (cond t (cancel_responded server now r b status m) (target_responded server now r b status m)).request
  by_test true = cancel_no_more laws server now r b status m h
  by_test false = target_no_more laws server now r b status m h

-- ---- a deadline

-- that of a branch to a target
target_kin : (r : OpenRequest) (b : Branch) (phase : Phase) → IsTimed r → IsKin r (target_overdue r b phase)
target_kin r b (Unheard due) h = given_up_kin r b 408 h
target_kin r b (Heard due) h = by_test (is_invite r) where
  keeps : (x : Branch) (t : Bool) → (cond t (record x { wants_cancel = true }) x).number ≡ x.number
  keeps x true = refl
  keeps x false = refl

  by_test : (t : Bool) → IsKin r
      (cond t (record r { branches = map (λ (x : Branch). cond (is_same_branch x b) (record x { wants_cancel = true }) x) r.branches }) (given_up b 408 r))
  by_test true =
      same_kin r (map (λ (x : Branch). cond (is_same_branch x b) (record x { wants_cancel = true }) x) r.branches)
      (map_targets (λ (x : Branch). cond (is_same_branch x b) (record x { wants_cancel = true }) x) r.branches (λ x. keeps x (is_same_branch x b)) h.targets)
  by_test false = given_up_kin r b 408 h
target_kin r b (Cancelled due) h = given_up_kin r b 487 h
target_kin r b (Done due status) h = phase_kin r b Ended h
target_kin r b Ended h = same_kin r r.branches h.targets

-- that of any branch
branch_kin : (r : OpenRequest) (b : Branch) → IsTimed r → IsKin r (branch_overdue r b)
branch_kin r b h = by_test b.is_cancel where
  by_test : (t : Bool) → IsKin r (cond t (with_phase b Ended r) (target_overdue r b b.phase))
  by_test true = phase_kin r b Ended h
  by_test false = target_kin r b b.phase h

-- a closed side closes no more
never_closing : (until : ℕ) → Closed ≡ Closing until → ⊥
never_closing until e = cc

-- a deadline
deadline_no_more : TimerLaws → (server : Server) (now : ℕ) (r : OpenRequest) (change : Change) → IsOverdue server now r change → IsTimed r → IsNoMore r change.request
deadline_no_more laws server now r _ (OfSide due) h =
    settled_no_more laws server now [] None r (record r { side = Closed }) tt
    (record {
      number_is = refl;
      key_is = refl;
      fewer = omega arith;
      timed = record
          { timely = λ until closing refused. absurd (never_closing until closing); targets = h.targets };
    })
deadline_no_more laws server now r _ (OfBranch b there due) h = kin_settled laws server now [] None r (branch_overdue r b) h tt (branch_kin r b h)

-- ---- any change

-- each change leaves no more
pub change_no_more : TimerLaws → (server : Server) (state : ProxyState) (act : Act) (now : ℕ) (r : OpenRequest) (change : Change) (again : List Packet)
    → IsChangeAt server state act now r change again → IsTimed r → IsNoMore r change.request
change_no_more laws server state act now r _ _ (ByResponse a bytes m status reason b said start for there) h = response_no_more laws server now r b status m h
change_no_more laws server state act now r _ _ (ByDeadline change passes) h = deadline_no_more laws server now r change passes h
change_no_more laws server state act now r _ _ (ByFault at ticket b is number at_branch) h =
    kin_settled laws server now [] None r (given_up b 503 r) h tt (given_up_kin r b 503 h)
change_no_more laws server state act now r _ _ (ByCancel a bytes m short key said is key_is at_request) h =
    kin_settled laws server now [] None r (cond (is_invite r && is_answering r.side) (marked r) r) h tt (by_test (is_invite r && is_answering r.side)) where
      by_test : (t : Bool) → IsKin r (cond t (marked r) r)
      by_test true = same_kin r (map marked_branch r.branches) (marked_targets r.branches h.targets)
      by_test false = same_kin r r.branches h.targets

-- so does an ACK
pub acknowledged_no_more : TimerLaws → (now : ℕ) (r : OpenRequest) → IsTimed r → IsNoMore r (acknowledged now r)
acknowledged_no_more laws now r h = by_test (is_invite r && was_refused r.answer) (laws.no_more_acknowledged now r) where
  not_closing : (side : Side) (until : ℕ) → acknowledged_side now side ≡ Closing until → ⊥
  not_closing Answering until e = cc
  not_closing (Closing due) until e = cc
  not_closing (Acknowledged due) until e = cc
  not_closing Closed until e = cc

  by_test : (t : Bool) → copies_left (cond t (record r { side = acknowledged_side now r.side }) r) ≤ copies_left r
      → IsNoMore r (cond t (record r { side = acknowledged_side now r.side }) r)
  by_test true fewer = record {
    number_is = refl;
    key_is = refl;
    fewer = fewer;
    timed = record {
      timely = λ until closing refused. absurd (not_closing r.side until closing);
      targets = h.targets;
    };
  }
  by_test false fewer = record { number_is = refl; key_is = refl; fewer = fewer; timed = h }
