-- Every open request has a deadline: one that owes an answer waits for a branch, since the best answer goes up with the last branch's.
use Rattle.std.proofs.Common.{◌≡◌, ℕ, ◌+◌, Bool, true, false, not, ◌&&◌, ◌||◌, cond, ◌==◌, List, [], ◌∷◌, ◌++◌, filter, Option, Some, None, refl, sym, ap, subst, ◌∙◌}
use Rattle.std.proofs.Common.{arith, option_map, count_by, IsSome as IsSomeOption, flat_map}
use Rattle.std.specs.List.{AllByRecursion, list_any, list_all}
use Rattle.sip_best.specs.declared.final_answer.Final.{Final}
use Rattle.sip_best.specs.Best.{best_of, picked, chosen_of, going_up, is_unbeaten, is_challenge_status, challenging}
use Rattle.sip_best.proofs.Choices.{one_goes_up}
use Rattle.sip_event.specs.declared.packet.Packet.{Packet}
use Rattle.model_steps.specs.state.declared.server.Server.{Server}
use Rattle.model_steps.specs.state.declared.branch.Phase.{Phase}
use Rattle.model_steps.specs.state.declared.branch.Branch.{Branch}
use Rattle.model_steps.specs.state.declared.open_request.OpenRequest.{OpenRequest}
use Rattle.model_steps.specs.state.declared.branch.Phase.TheVariants.{Unheard, Heard, Cancelled, Done, Ended}
use Rattle.model_steps.specs.state.declared.open_request.Side.{Side}
use Rattle.model_steps.specs.state.declared.open_request.Side.TheVariants.{Closing}
use Rattle.model_steps.specs.state.State.{is_final, is_answering, has_left, is_provisional}
use Rattle.model_steps.specs.state.declared.open_request.Upward.{Upward}
use Rattle.model_steps.specs.context_model.Branches.{Change, upward_of, all_final, best_upward, is_ready, is_cancellable, cancel_branch, with_cancels, after_upward}
use Rattle.model_steps.specs.context_model.Branches.{upward_list, settled, held_branch, with_cancel}
use Rattle.sip_model.specs.Order.{is_final_answer}
use Rattle.sip_model.proofs.Cancels.{all_with_cancels}
use Rattle.sip_model.proofs.Places.{count_cons, one_at}
use Rattle.sip_model.proofs.Events.{IsSome, IsSeen, IsFinalStatus, is_target, IsCounted, IsEvent, final_either}
use Rattle.sip_model.proofs.Answers.{Tells, NoneFinal, OneFinal, tells, upward_side}
use Rattle.sip_model.proofs.Edits.{targets_final}

-- an open request: its final answers are all there, it waits for a branch while it owes an answer, and it hasn't left
pub record IsSound (r : OpenRequest) : Type 0 where
  pub counted : IsCounted r
  pub waits : is_answering r.side ≡ true → all_final r ≡ false
  pub stays : has_left r ≡ false

-- ---- the best answer is a final one

-- what is picked of final answers is one
picked_final : (test : Final → Bool) (fs : List Final) → AllByRecursion IsFinalStatus fs → (x : Final × List Final) → picked test fs ≡ Some x → IsFinalStatus x.0
picked_final test [] all x e = absurd (cc)
picked_final test (f ∷ fs) all x e = by_test (test f) (picked test fs) (λ y there. picked_final test fs all.1 y there) e where
  by_test : (t : Bool) → (later : Option (Final × List Final)) → ((y : Final × List Final) → later ≡ Some y → IsFinalStatus y.0)
      → cond t (Some (f, fs)) (option_map (λ y. (y.0, f ∷ y.1)) later) ≡ Some x → IsFinalStatus x.0
  by_test true later rest is = let same : (f, fs) ≡ x = cc in subst (λ (y : Final × List Final). IsFinalStatus y.0) same all.0
  by_test false None rest is = absurd (cc)
  by_test false (Some y) rest is = let same : (y.0, f ∷ y.1) ≡ x = cc in subst (λ (z : Final × List Final). IsFinalStatus z.0) same (rest y refl)

-- as it goes up, too
going_up_final : (others : List Final) (f : Final) → IsFinalStatus f → IsFinalStatus (going_up others f)
going_up_final others f h = by_tests (f.status == 503) (is_challenge_status f.status) where
  by_tests : (x y : Bool) → IsFinalStatus (cond x (record { status = 500; message = None }) (cond y (challenging others f) f))
  by_tests true y = refl
  by_tests false true = h
  by_tests false false = h

-- so the best one is
best_final : (fs : List Final) (f : Final) → AllByRecursion IsFinalStatus fs → best_of fs ≡ Some f → IsFinalStatus f
best_final fs f all e = by_choice (chosen_of fs) refl e where
  by_choice : (o : Option (Final × List Final)) → chosen_of fs ≡ o → option_map (λ x. going_up x.1 x.0) o ≡ Some f → IsFinalStatus f
  by_choice None is e = absurd (cc)
  by_choice (Some x) is e = let same : going_up x.1 x.0 ≡ f = cc in subst IsFinalStatus same (going_up_final x.1 x.0 (picked_final (is_unbeaten fs) fs all x is))

-- ---- what settling keeps

-- an answer is owed after one that goes up only if it was, and that isn't final
still_owed : (owes early : Bool) (side : Side) (due : ℕ) → is_answering side ≡ owes → is_answering (cond (owes && not early) (Closing due) side) ≡ true
    → (owes ≡ true) × (early ≡ true)
still_owed true true side due is e = (refl, refl)
still_owed true false side due is e = absurd (cc)
still_owed false early side due is e = absurd (cc)

-- a side that no final answer closes
unless_final : (t : Bool) (side : Side) (due : ℕ) → is_answering (cond (t && false) (Closing due) side) ≡ is_answering side
unless_final true side due = refl
unless_final false side due = refl

-- an answer that goes up leaves them all there
pub upward_counted : (now : ℕ) (o : Option Upward) (r : OpenRequest) → IsCounted r → IsCounted (after_upward now o r)
upward_counted now None r h = h
upward_counted now (Some u) r h = record {
  seen = λ owes. let both = still_owed (is_answering r.side) (is_provisional u.status) r.side (now + 32000) refl owes in
      subst (λ (t : Bool). AllByRecursion (IsSeen (cond t r.finals [])) r.branches) (sym both.1) (h.seen both.0);
  none_kept = λ had. by_status (is_provisional u.status) refl had;
  final = final_either (is_provisional u.status) r.finals [] h.final tt;
  has_target = λ owes. h.has_target (still_owed (is_answering r.side) (is_provisional u.status) r.side (now + 32000) refl owes).0;
} where
  by_status : (t : Bool) → is_provisional u.status ≡ t → is_answering (cond (is_answering r.side && not (is_provisional u.status)) (Closing (now + 32000)) r.side) ≡ false
      → cond t r.finals [] ≡ []
  by_status true is had =
      h.none_kept (sym (ap (λ (t : Bool). is_answering (cond (is_answering r.side && not t) (Closing (now + 32000)) r.side)) is
      ∙ unless_final (is_answering r.side) r.side (now + 32000)) ∙ had)
  by_status false is had = refl

-- a branch that is ready for a CANCEL has no final answer
ready_open : (phase : Phase) → is_ready phase ≡ true → is_final phase ≡ false
ready_open (Unheard due) e = refl
ready_open (Heard due) e = refl
ready_open (Cancelled due) e = refl
ready_open (Done due f) e = absurd (cc)
ready_open Ended e = absurd (cc)

-- CANCELs are no branches to targets, and those stay
any_with_cancels : (now : ℕ) (bs : List Branch) → list_any is_target (flat_map (with_cancel now) bs) ≡ list_any is_target bs
any_with_cancels now [] = refl
any_with_cancels now (b ∷ bs) = by_test (is_cancellable b) (any_with_cancels now bs) where
  by_test : (t : Bool) → list_any is_target (flat_map (with_cancel now) bs) ≡ list_any is_target bs
      → list_any is_target (cond t (held_branch now b ∷ cancel_branch now b ∷ []) (b ∷ []) ++ flat_map (with_cancel now) bs) ≡ list_any is_target (b ∷ bs)
  by_test true same = ap (λ (v : Bool). is_target b || v) same
  by_test false same = ap (λ (v : Bool). is_target b || v) same

-- CANCELs leave final answers all there
cancels_counted : (now : ℕ) (r : OpenRequest) → IsCounted r → IsCounted (with_cancels now r)
cancels_counted now r h = record {
  seen = λ owes. all_with_cancels (IsSeen r.finals) (IsSeen r.finals) now r.branches (λ x before. before) (λ x before target final. absurd (cc))
      (λ x before target final. absurd (cc)) (h.seen owes);
  none_kept = h.none_kept;
  final = h.final;
  has_target = λ answering. any_with_cancels now r.branches ∙ h.has_target answering;
}

-- ---- whether all branches are final

-- one branch that is sent a CANCEL doesn't count in that
one_final_more : (now : ℕ) (x : Branch) (rest others : List Branch) (t : Bool) → is_cancellable x ≡ t → targets_final rest ≡ targets_final others
    → targets_final (cond t (record x { phase = Cancelled (now + 32000) }) x ∷ rest) ≡ targets_final (x ∷ others)
one_final_more now x rest others true is same = by_cancel x.is_cancel refl where
  open_phase : is_final x.phase ≡ false
  open_phase = ready_open x.phase (ready x.is_cancel x.wants_cancel (is_ready x.phase) is) where
    ready : (a b c : Bool) → (not a && b && c) ≡ true → c ≡ true
    ready true b c e = absurd (cc)
    ready false true c e = e
    ready false false c e = absurd (cc)

  by_cancel : (t : Bool) → x.is_cancel ≡ t
      → list_all (λ (b : Branch). is_final b.phase) (cond (not t) (record x { phase = Cancelled (now + 32000) } ∷ filter (λ (b : Branch). not b.is_cancel) rest)
      (filter (λ (b : Branch). not b.is_cancel) rest))
      ≡ list_all (λ (b : Branch). is_final b.phase) (cond (not t) (x ∷ filter (λ (b : Branch). not b.is_cancel) others) (filter (λ (b : Branch). not b.is_cancel) others))
  by_cancel true e = same
  by_cancel false e = sym (ap (λ (v : Bool). v && targets_final others) open_phase)
one_final_more now x rest others false is same = by_cancel x.is_cancel where
  by_cancel : (t : Bool)
      → list_all (λ (b : Branch). is_final b.phase) (cond (not t) (x ∷ filter (λ (b : Branch). not b.is_cancel) rest) (filter (λ (b : Branch). not b.is_cancel) rest))
      ≡ list_all (λ (b : Branch). is_final b.phase) (cond (not t) (x ∷ filter (λ (b : Branch). not b.is_cancel) others) (filter (λ (b : Branch). not b.is_cancel) others))
  by_cancel true = same
  by_cancel false = ap (λ (v : Bool). is_final x.phase && v) same

-- nor does the CANCEL, so CANCELs change nothing of it
with_cancels_final : (now : ℕ) (xs : List Branch) → targets_final (flat_map (with_cancel now) xs) ≡ targets_final xs
with_cancels_final now [] = refl
with_cancels_final now (x ∷ xs) = by_test (is_cancellable x) refl (with_cancels_final now xs) where
  by_test : (t : Bool) → is_cancellable x ≡ t → targets_final (flat_map (with_cancel now) xs) ≡ targets_final xs
      → targets_final (cond t (held_branch now x ∷ cancel_branch now x ∷ []) (x ∷ []) ++ flat_map (with_cancel now) xs) ≡ targets_final (x ∷ xs)
  by_test true is same = one_final_more now x (cancel_branch now x ∷ flat_map (with_cancel now) xs) xs true is same
  by_test false is same = one_final_more now x (flat_map (with_cancel now) xs) xs false is same

-- ---- where all branches are final, a final answer goes up

-- a branch to a target that is final has left a final answer
one_seen : (finals : List Final) (bs : List Branch) → AllByRecursion (IsSeen finals) bs → list_any is_target bs ≡ true → targets_final bs ≡ true → IsSome finals
one_seen finals [] all some e = absurd (cc)
one_seen finals (b ∷ bs) all some e = by_cancel b.is_cancel refl (λ there final. one_seen finals bs all.1 there final) some e where
  by_cancel : (t : Bool) → b.is_cancel ≡ t → (list_any is_target bs ≡ true → targets_final bs ≡ true → IsSome finals) → (not t || list_any is_target bs) ≡ true
      → list_all (λ (x : Branch). is_final x.phase) (cond (not t) (b ∷ filter (λ (x : Branch). not x.is_cancel) bs) (filter (λ (x : Branch). not x.is_cancel) bs)) ≡ true
      → IsSome finals
  by_cancel true is rest some e = rest some e
  by_cancel false is rest some e = all.0 is (first (is_final b.phase) e) where
    first : (t : Bool) → (t && targets_final bs) ≡ true → t ≡ true
    first true e = refl
    first false e = e

-- of some answers there is a best one
some_best : (fs : List Final) → IsSome fs → (f : Final) × (best_of fs ≡ Some f)
some_best [] some = absurd some
some_best (f ∷ fs) some = by_best (best_of (f ∷ fs)) (one_goes_up f fs) where
  by_best : (o : Option Final) → IsSomeOption o → (g : Final) × (o ≡ Some g)
  by_best None h = absurd (cc)
  by_best (Some g) h = (g, refl)

-- an answer that goes up leaves the branches
pub upward_branches : (now : ℕ) (o : Option Upward) (r : OpenRequest) → (after_upward now o r).branches ≡ r.branches
upward_branches now None r = refl
upward_branches now (Some u) r = refl

-- the best answer that goes up closes the side
best_closes : (server : Server) (now : ℕ) (r : OpenRequest) (f : Final) → best_upward server r ≡ Some (upward_of server r f) → IsFinalStatus f
    → is_answering r.side ≡ true
    → is_answering (after_upward now (best_upward server r) r).side ≡ false
best_closes server now r f is final owes = by_told (best_upward server r) is (tells now (best_upward server r) r owes) where
  by_told : (o : Option Upward) → o ≡ Some (upward_of server r f) → Tells o r (after_upward now o r) → is_answering (after_upward now o r).side ≡ false
  by_told o e (NoneFinal none waits) =
      let counted : count_by is_final_answer (upward_list (Some (upward_of server r f))) ≡ 0 =
      subst (λ (v : Option Upward). count_by is_final_answer (upward_list v) ≡ 0) e none in
      absurd (omega (arith, counted, count_cons is_final_answer (upward_of server r f) [], one_at (is_final_answer (upward_of server r f)) (ap not final)))
  by_told o e (OneFinal u there passes closes answer) = closes

-- the best one goes up where all are final and one is owed
best_goes : (server : Server) (r : OpenRequest) (f : Final) → is_answering r.side ≡ true → all_final r ≡ true → best_of r.finals ≡ Some f
    → best_upward server r ≡ Some (upward_of server r f)
best_goes server r f owes all best = by_tests (is_answering r.side) (all_final r) (best_of r.finals) owes all best where
  by_tests : (x y : Bool) (o : Option Final) → x ≡ true → y ≡ true → o ≡ Some f → cond (x && y) (option_map (upward_of server r) o) None ≡ Some (upward_of server r f)
  by_tests true true o e d is = ap (option_map (upward_of server r)) is
  by_tests true false o e d is = absurd (cc)
  by_tests false y o e d is = absurd (cc)

-- a request that owes an answer once the best answer had its time waits for a branch
waits_after : (server : Server) (now : ℕ) (told : OpenRequest) → IsCounted told → is_answering (after_upward now (best_upward server told) told).side ≡ true
    → all_final told ≡ false
waits_after server now told h owes = by_final (all_final told) refl where
  owed : is_answering told.side ≡ true
  owed = by_side (is_answering told.side) refl where
    by_side : (t : Bool) → is_answering told.side ≡ t → is_answering told.side ≡ true
    by_side true e = e
    by_side false e = absurd (cc (owes, ap is_answering (upward_side now (best_upward server told) told e) ∙ e))

  by_final : (t : Bool) → all_final told ≡ t → all_final told ≡ false
  by_final false e = e
  by_final true e =
      let best = some_best told.finals (one_seen told.finals told.branches (h.seen owed) (h.has_target owed) e) in
      let final : IsFinalStatus best.0 = best_final told.finals best.0 h.final best.1 in
      absurd (cc (owes, best_closes server now told best.0 (best_goes server told best.0 owed e best.1) final owed))

-- settling leaves final answers all there
pub settled_counted : (server : Server) (now : ℕ) (acks : List Packet) (relayed : Option Upward) (r : OpenRequest) → IsCounted r
    → IsCounted (settled server now acks relayed r).request
settled_counted server now acks relayed r h =
    let told : OpenRequest = after_upward now relayed r in
    cancels_counted now (after_upward now (best_upward server told) told) (upward_counted now (best_upward server told) told (upward_counted now relayed r h))

-- and a request that owes an answer waits for a branch
pub settled_waits : (server : Server) (now : ℕ) (acks : List Packet) (relayed : Option Upward) (r : OpenRequest) → IsCounted r
    → is_answering (settled server now acks relayed r).request.side ≡ true
    → all_final (settled server now acks relayed r).request ≡ false
settled_waits server now acks relayed r h owes =
    let told : OpenRequest = after_upward now relayed r in
    let after : OpenRequest = after_upward now (best_upward server told) told in
    with_cancels_final now after.branches ∙ ap targets_final (upward_branches now (best_upward server told) told)
    ∙ waits_after server now told (upward_counted now relayed r h) owes

-- an event of a request that stays open
pub event_sound : (server : Server) (now : ℕ) (r : OpenRequest) (change : Change) → IsEvent server now r change → IsSound r → has_left change.request ≡ false
    → IsSound change.request
event_sound server now r change event h stays = record {
  counted = subst (λ (c : Change). IsCounted c.request) (sym event.is_change) (settled_counted server now event.acks event.relayed event.between
      (event.counted h.counted));
  waits = subst (λ (c : Change). is_answering c.request.side ≡ true → all_final c.request ≡ false) (sym event.is_change)
      (settled_waits server now event.acks event.relayed event.between (event.counted h.counted));
  stays = stays;
}
