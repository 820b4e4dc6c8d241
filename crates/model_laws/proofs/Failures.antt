-- The final answers that an open request keeps are of 300 to 699, so that one of 101 to 299 goes to the caller only as it comes from a branch.
use Rattle.std.proofs.Common.{◌≡◌, ℕ, ◌+◌, Bool, true, false, not, ◌&&◌, ◌||◌, ◌==◌, cond, List, [], ◌∷◌, ◌++◌, map, filter, refl, sym, subst, Option, Some, None, arith}
use Rattle.std.proofs.Common.{is_some}
use Rattle.std.specs.Prelude.{option_map}
use Rattle.std.specs.List.{AllByRecursion}
use Rattle.std.proofs.lemmas.Bool.Decides.{nat_tests}
use Rattle.sip_message_form.specs.declared.message.Message.{Message}
use Rattle.sip_best.specs.declared.final_answer.Final.{Final}
use Rattle.sip_best.specs.Best.{picked, is_unbeaten, chosen_of, is_challenge_status, challenging, going_up, best_of}
use Rattle.sip_event.specs.declared.packet.Packet.{Packet}
use Rattle.sip_model.specs.state.declared.server.Server.{Server}
use Rattle.sip_model.specs.state.declared.branch.Branch.{Branch}
use Rattle.sip_model.specs.state.declared.branch.Phase.{Phase}
use Rattle.sip_model.specs.state.declared.branch.Phase.TheVariants.{Unheard, Heard, Cancelled, Done, Ended}
use Rattle.sip_model.specs.state.declared.open_request.Side.TheVariants.{Closed}
use Rattle.sip_model.specs.state.declared.open_request.OpenRequest.{OpenRequest}
use Rattle.sip_model.specs.state.declared.open_request.Upward.{Upward}
use Rattle.sip_model.specs.state.State.{is_invite, is_final, is_answering, is_success, is_failure, is_decline, is_provisional}
use Rattle.sip_model.specs.context_model.Branches.{Change, is_same_branch, with_phase, with_final, marked, given_up, upward_of, all_final, best_upward, after_upward}
use Rattle.sip_model.specs.context_model.Branches.{upward_list, settled, heard, other_heard, relayed_from, relayed_provisional, is_accepted, relayed_success, final_of}
use Rattle.sip_model.specs.context_model.Branches.{linger, told_to, with_answer, acks_of, further, target_responded, cancel_responded, responded, target_overdue}
use Rattle.sip_model.specs.context_model.Branches.{branch_overdue, send_failed, cancelled}
use Rattle.sip_model.specs.context_model.Sending.{made_answer}
use Rattle.sip_model.specs.context_model.Opening.{unsent, is_tried, trying, tried, opening}
use Rattle.sip_model.specs.steps_model.Step.{IsOverdue, OfSide, OfBranch}
use Rattle.sip_model.proofs.Lists.{all_append}

-- a final answer of 300 to 699
abbrev pub Fails : Final → Type 0
Fails f = is_failure f.status ≡ true

-- all that a request keeps are such
abbrev pub KeepsFailures : OpenRequest → Type 0
KeepsFailures r = AllByRecursion Fails r.finals

-- it is a failure
abbrev pub Refusing : Upward → Type 0
Refusing u = is_failure u.status ≡ true

-- ---- the best answer

-- what is picked is one of them
picked_fails : (test : Final → Bool) (finals : List Final) → AllByRecursion Fails finals → (x : Final × List Final) → picked test finals ≡ Some x → Fails x.0
picked_fails test [] all x e = absurd (cc)
picked_fails test (f ∷ fs) all x e = by_test (λ y is. picked_fails test fs all.1 y is) (test f) e where
  by_rest : ((y : Final × List Final) → picked test fs ≡ Some y → Fails y.0) → (o : Option (Final × List Final)) → picked test fs ≡ o
      → option_map (λ (y : Final × List Final). (y.0, f ∷ y.1)) o ≡ Some x → Fails x.0
  by_rest rest None is e = absurd (cc)
  by_rest rest (Some y) is e = let same : y.0 ≡ x.0 = cc in subst (λ (g : Final). Fails g) same (rest y is)

  by_test : ((y : Final × List Final) → picked test fs ≡ Some y → Fails y.0) → (t : Bool)
      → cond t (Some (f, fs)) (option_map (λ (y : Final × List Final). (y.0, f ∷ y.1)) (picked test fs)) ≡ Some x → Fails x.0
  by_test rest true e = let same : f ≡ x.0 = cc in subst (λ (g : Final). Fails g) same all.0
  by_test rest false e = by_rest rest (picked test fs) refl e

-- as it goes up
going_up_fails : (others : List Final) (f : Final) → Fails f → Fails (going_up others f)
going_up_fails others f fails = by_tests (f.status == 503) (is_challenge_status f.status) where
  by_tests : (t u : Bool) → Fails (cond t (record { status = 500; message = None }) (cond u (challenging others f) f))
  by_tests true u = refl
  by_tests false true = fails
  by_tests false false = fails

-- the best of some
best_fails : (finals : List Final) → AllByRecursion Fails finals → (f : Final) → best_of finals ≡ Some f → Fails f
best_fails finals all f e = by_chosen (chosen_of finals) refl e where
  by_chosen : (o : Option (Final × List Final)) → chosen_of finals ≡ o → option_map (λ (x : Final × List Final). going_up x.1 x.0) o ≡ Some f → Fails f
  by_chosen None is e = absurd (cc)
  by_chosen (Some x) is e = let same : going_up x.1 x.0 ≡ f = cc in subst Fails same (going_up_fails x.1 x.0 (picked_fails (is_unbeaten finals) finals all x is))

-- what goes to the caller as the best answer
best_upward_fails : (server : Server) (r : OpenRequest) → KeepsFailures r → AllByRecursion Refusing (upward_list (best_upward server r))
best_upward_fails server r all = by_test (is_answering r.side && all_final r) where
  by_best : (o : Option Final) → best_of r.finals ≡ o → AllByRecursion Refusing (upward_list (option_map (upward_of server r) o))
  by_best None is = tt
  by_best (Some f) is = (best_fails r.finals all f is, tt)

  by_test : (t : Bool) → AllByRecursion Refusing (upward_list (cond t (option_map (upward_of server r) (best_of r.finals)) None))
  by_test true = by_best (best_of r.finals) refl
  by_test false = tt

-- ---- what follows every event

-- either of two lists fails
fails_either : (t : Bool) (xs ys : List Final) → AllByRecursion Fails xs → AllByRecursion Fails ys → AllByRecursion Fails (cond t xs ys)
fails_either true xs ys h k = h
fails_either false xs ys h k = k

-- once something went to the caller
upward_fails : (now : ℕ) (o : Option Upward) (r : OpenRequest) → KeepsFailures r → KeepsFailures (after_upward now o r)
upward_fails now None r h = h
upward_fails now (Some u) r h = fails_either (is_provisional u.status) r.finals [] h tt

-- ---- a response

-- with one more final answer that fails
final_fails : (f : Final) (r : OpenRequest) → Fails f → KeepsFailures r → KeepsFailures (with_final f r)
final_fails f r fails h = fails_either (is_answering r.side) (r.finals ++ f ∷ []) r.finals (all_append Fails r.finals (f ∷ []) h (fails, tt)) h

-- with its branches marked or not
marked_fails : (t : Bool) (r : OpenRequest) → KeepsFailures r → KeepsFailures (cond t (marked r) r)
marked_fails true r h = h
marked_fails false r h = h

-- a final answer that is no 2xx fails
final_is : (status : ℕ) → is_provisional status ≡ false → is_success status ≡ false → is_failure status ≡ true
final_is status final other = grind (arith, nat_tests)

-- a 2xx isn't provisional
success_is : (status : ℕ) → is_success status ≡ true → is_provisional status ≡ false
success_is status is = grind (arith, nat_tests)

-- the first final answer of a branch, once it was relayed if it was a 2xx
answer_fails : (r : OpenRequest) (b : Branch) (now status : ℕ) (m : Message) → is_provisional status ≡ false → KeepsFailures r
    → KeepsFailures (after_upward now (relayed_success r b status m) (with_answer r b now status m))
answer_fails r b now status m final h = by_tests (is_answering r.side) refl (is_success status) refl where
  before : OpenRequest
  before = with_phase (told_to r b status m) (Done (now + linger r) status) r

  told : Bool → OpenRequest
  told t = cond (is_invite r && (is_success status || is_decline status)) (marked (record before { finals = cond t (r.finals ++ final_of status m ∷ []) r.finals }))
      (record before { finals = cond t (r.finals ++ final_of status m ∷ []) r.finals })

  provisional : (t : Bool) (xs : List Final) → t ≡ false → AllByRecursion Fails (cond t xs [])
  provisional true xs e = absurd (cc)
  provisional false xs e = tt

  by_tests : (t : Bool) → is_answering r.side ≡ t → (u : Bool) → is_success status ≡ u
      → KeepsFailures (after_upward now (cond (u && (t || is_accepted r)) (Some (relayed_from b status m)) None) (told t))
  by_tests true side true is = provisional (is_provisional status) _ final
  by_tests true side false is =
      marked_fails (is_invite r && (is_success status || is_decline status)) (record before { finals = r.finals ++ final_of status m ∷ [] })
      (all_append Fails r.finals (final_of status m ∷ []) h (final_is status final is, tt))
  by_tests false side u is =
      upward_fails now (cond (u && is_accepted r) (Some (relayed_from b status m)) None) (told false)
      (marked_fails (is_invite r && (is_success status || is_decline status)) (record before { finals = r.finals }) h)

-- what may be relayed is an answer of that branch
abbrev IsRelayed : Branch → ℕ → Message → Option Upward → Type 0
IsRelayed b status m None = Unit {0}
IsRelayed b status m (Some u) = u ≡ relayed_from b status m

-- by a test
relayed_if : (b : Branch) (status : ℕ) (m : Message) (t : Bool) → IsRelayed b status m (cond t (Some (relayed_from b status m)) None)
relayed_if b status m true = refl
relayed_if b status m false = tt

-- a further 2xx
further_relayed : (r : OpenRequest) (b : Branch) (phase : Phase) (status : ℕ) (m : Message) → IsRelayed b status m (further r b phase status m)
further_relayed r b (Done due first) status m = by_test (is_invite r && is_success first) where
  by_test : (t : Bool) → IsRelayed b status m (cond t (relayed_success r b status m) None)
  by_test true = relayed_if b status m (is_success status && (is_answering r.side || is_accepted r))
  by_test false = tt
further_relayed r b (Unheard due) status m = tt
further_relayed r b (Heard due) status m = tt
further_relayed r b (Cancelled due) status m = tt
further_relayed r b Ended status m = tt

-- what a change leaves and sends up: failures alone, but for what came from a branch
pub record IsHonest (P : Upward → Type 0) (change : Change) : Type 0 where
  pub keeps : KeepsFailures change.request
  pub upward : AllByRecursion P change.upward

module _ (P : Upward → Type 0) (refuses : (u : Upward) → Refusing u → P u) where
  -- of either of two changes
  honest_either : (t : Bool) (x y : Change) → IsHonest P x → IsHonest P y → IsHonest P (cond t x y)
  honest_either true x y h k = h
  honest_either false x y h k = k

  -- all that refuse
  all_refuse : (us : List Upward) → AllByRecursion Refusing us → AllByRecursion P us
  all_refuse [] h = tt
  all_refuse (u ∷ us) h = (refuses u h.0, all_refuse us h.1)

  -- what follows an event with nothing relayed
  pub settled_honest : (server : Server) (now : ℕ) (acks : List Packet) (s : OpenRequest) → KeepsFailures s → IsHonest P (settled server now acks None s)
  settled_honest server now acks s h = record {
    keeps = upward_fails now (best_upward server s) s h;
    upward = all_refuse (upward_list (best_upward server s)) (best_upward_fails server s h);
  }

  -- and with an answer of a branch
  relayed_honest : (server : Server) (now : ℕ) (acks : List Packet) (b : Branch) (status : ℕ) (m : Message) (relayed : Option Upward) (s : OpenRequest)
      → P (relayed_from b status m) → IsRelayed b status m relayed
      → KeepsFailures (after_upward now relayed s) → IsHonest P (settled server now acks relayed s)
  relayed_honest server now acks b status m None s p is h = settled_honest server now acks s h
  relayed_honest server now acks b status m (Some u) s p is h = record {
    keeps = upward_fails now (best_upward server (after_upward now (Some u) s)) (after_upward now (Some u) s) h;
    upward = (subst P (sym is) p, all_refuse (upward_list (best_upward server (after_upward now (Some u) s))) (best_upward_fails server (after_upward now (Some u) s) h));
  }

  -- a response to the request of a branch
  target_honest : (server : Server) (now : ℕ) (r : OpenRequest) (b : Branch) (status : ℕ) (m : Message) → P (relayed_from b status m) → KeepsFailures r
      → IsHonest P (target_responded server now r b status m)
  target_honest server now r b status m p h = by_tests (is_provisional status) refl (is_final b.phase) where
    heard_request : OpenRequest
    heard_request = with_phase b (heard r now status b.phase) r

    by_tests : (t : Bool) → is_provisional status ≡ t → (u : Bool)
        → IsHonest P (cond t (settled server now [] (relayed_provisional r b status m) heard_request)
        (cond u (settled server now [] (further r b b.phase status m) r) (settled server now (acks_of server r b status m) (relayed_success r b status m)
        (with_answer r b now status m))))
    by_tests true is u =
        relayed_honest server now [] b status m (relayed_provisional r b status m) heard_request p
        (relayed_if b status m (not (status == 100) && not (is_final b.phase) && is_answering r.side))
        (upward_fails now (relayed_provisional r b status m) heard_request h)
    by_tests false is true =
        relayed_honest server now [] b status m (further r b b.phase status m) r p (further_relayed r b b.phase status m)
        (upward_fails now (further r b b.phase status m) r h)
    by_tests false is false =
        relayed_honest server now (acks_of server r b status m) b status m (relayed_success r b status m) (with_answer r b now status m) p
        (relayed_if b status m (is_success status && (is_answering r.side || is_accepted r))) (answer_fails r b now status m is h)

  -- to a CANCEL
  cancel_honest : (server : Server) (now : ℕ) (r : OpenRequest) (b : Branch) (status : ℕ) (m : Message) → KeepsFailures r
      → IsHonest P (cancel_responded server now r b status m)
  cancel_honest server now r b status m h =
      honest_either (is_provisional status) (settled server now [] None (with_phase b (other_heard b.phase) r))
      (cond (is_final b.phase) (settled server now [] None r) (settled server now [] None (with_phase b (Done (now + 5000) status) r)))
      (settled_honest server now [] (with_phase b (other_heard b.phase) r) h)
      (honest_either (is_final b.phase) (settled server now [] None r) (settled server now [] None (with_phase b (Done (now + 5000) status) r))
      (settled_honest server now [] r h)
      (settled_honest server now [] (with_phase b (Done (now + 5000) status) r) h))

  -- either
  pub responded_honest : (server : Server) (now : ℕ) (r : OpenRequest) (b : Branch) (status : ℕ) (m : Message) → (b.is_cancel ≡ false → P (relayed_from b status m))
      → KeepsFailures r
      → IsHonest P (responded server now r b status m)
  responded_honest server now r b status m p h = by_test b.is_cancel refl where
    by_test : (t : Bool) → b.is_cancel ≡ t → IsHonest P (cond t (cancel_responded server now r b status m) (target_responded server now r b status m))
    by_test true is = cancel_honest server now r b status m h
    by_test false is = target_honest server now r b status m (p is) h

  -- ---- what else changes a request

  -- a branch that is given up
  given_up_fails : (b : Branch) (status : ℕ) (r : OpenRequest) → is_failure status ≡ true → KeepsFailures r → KeepsFailures (given_up b status r)
  given_up_fails b status r fails h = final_fails (record { status = status; message = None }) (with_phase b Ended r) fails h

  -- of either of two requests
  keeps_either : (t : Bool) (x y : OpenRequest) → KeepsFailures x → KeepsFailures y → KeepsFailures (cond t x y)
  keeps_either true x y h k = h
  keeps_either false x y h k = k

  -- the deadline of a branch to a target
  target_overdue_fails : (r : OpenRequest) (b : Branch) (phase : Phase) → KeepsFailures r → KeepsFailures (target_overdue r b phase)
  target_overdue_fails r b (Unheard due) h = given_up_fails b 408 r refl h
  target_overdue_fails r b (Heard due) h =
      keeps_either (is_invite r) (record r { branches = map (λ (x : Branch). cond (is_same_branch x b) (record x { wants_cancel = true }) x) r.branches })
      (given_up b 408 r) h (given_up_fails b 408 r refl h)
  target_overdue_fails r b (Cancelled due) h = given_up_fails b 487 r refl h
  target_overdue_fails r b (Done due status) h = h
  target_overdue_fails r b Ended h = h

  -- a deadline
  pub overdue_honest : (server : Server) (due : ℕ) (r : OpenRequest) (change : Change) → IsOverdue server due r change → KeepsFailures r → IsHonest P change
  overdue_honest server due r _ (OfSide is) h = settled_honest server due [] (record r { side = Closed }) h
  overdue_honest server due r _ (OfBranch b there is) h =
      settled_honest server due [] (branch_overdue r b) (keeps_either b.is_cancel (with_phase b Ended r) (target_overdue r b b.phase) h
      (target_overdue_fails r b b.phase h))

  -- a send that failed
  pub failed_honest : (server : Server) (now : ℕ) (r : OpenRequest) (b : Branch) → KeepsFailures r → IsHonest P (send_failed server now r b)
  failed_honest server now r b h = settled_honest server now [] (given_up b 503 r) (given_up_fails b 503 r refl h)

  -- a CANCEL of the caller's
  pub cancelled_honest : (server : Server) (now : ℕ) (r : OpenRequest) → KeepsFailures r → IsHonest P (cancelled server now r)
  cancelled_honest server now r h = settled_honest server now [] (cond (is_invite r && is_answering r.side) (marked r) r)
      (marked_fails (is_invite r && is_answering r.side) r h)

  -- ---- a request that is opened

  -- a 100 leaves the final answers
  trying_fails : (now : ℕ) (server : Server) (r : OpenRequest) → KeepsFailures r → KeepsFailures (tried now (trying server r) r)
  trying_fails now server r h = by_test (is_tried r) where
    by_test : (t : Bool) → KeepsFailures (tried now (cond t (record {
      status = 100;
      message = made_answer server r.number r.request.message r.request.source 100 [];
      target = None;
    } ∷ [])
        []) r)
    by_test true = h
    by_test false = h

  -- it is sent to its branches
  pub opening_honest : (server : Server) (now : ℕ) (r : OpenRequest) → KeepsFailures r → IsHonest P (opening server now r)
  opening_honest server now r h = settled_honest server now [] (tried now (trying server r) r) (trying_fails now server r h)

  -- a branch without an address has answered 503
  pub unsent_fail : (bs : List Branch) → AllByRecursion Fails (unsent bs)
  unsent_fail bs = each (filter (λ (b : Branch). not (is_some b.address)) bs) where
    each : (xs : List Branch) → AllByRecursion Fails (map (λ (b : Branch). record { status = 503; message = None }) xs)
    each [] = tt
    each (x ∷ xs) = (refl, each xs)
