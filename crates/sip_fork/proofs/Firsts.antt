-- The first timer, and the open request and the part that it belongs to.
use Rattle.std.proofs.Common.{◌≡◌, ℕ, ◌≤◌, Bool, true, false, cond, List, [], ◌∷◌, map, refl, ap, arith, eqb, ltb, flat_map}
use Rattle.std.specs.Prelude.{count_by}
use Rattle.std.specs.List.{All, sum_by}
use Rattle.std.proofs.lemmas.Bool.Decides.{nat_tests}
use Rattle.std.proofs.lemmas.List.Elements.{All-head, All-tail}
use Rattle.std.proofs.lemmas.List.Sums.{sum_by-cons}
use Rattle.sip_timers.specs.declared.timer.Timer.{Timer}
use Rattle.sip_timers.specs.Timers.{AreOrdered, due_before}
use Rattle.sip_fork.proofs.Lists.{all_append, all_weaker}
use Rattle.sip_dialog_updates.specs.state.State.{deadlines_of}
use Rattle.model_steps.specs.context_model.Retransmission.{resends_of}
use Rattle.model_steps.specs.Step.{NoneBefore, NoneAgainBefore}
use Rattle.sip_request.specs.Named.{named_by}
use Rattle.sip_request.specs.declared.request.Request.{Request}
use Rattle.sip_fork.specs.Contexts.{IsKept}
use Rattle.sip_fork.proofs.Moments.{due_then, deadlines_named, resends_named}
use Rattle.sip_fork.specs.Timing.{Timing}
use Rattle.sip_timers.proofs.Counting.{count_le, count-cons}

-- what stands is due no earlier than the first
pub first_le : (t : Timer) (ts : List Timer) (m : ℕ) → AreOrdered (t ∷ ts) → 1 ≤ count_by (due_then m) (t ∷ ts) → t.due ≤ m
first_le t ts m ordered some = by_test (ltb m t.due) refl where
  by_test : (b : Bool) → ltb m t.due ≡ b → t.due ≤ m
  by_test false late = grind (arith, nat_tests, late)
  by_test true early =
      let fewer : count_by (due_then m) ts ≤ due_before t.due ts = count_le (due_then m) (λ (u : Timer). ltb u.due t.due) ts (λ u is. grind (arith, nat_tests, early, is))
      in
      let differs : eqb t.due m ≡ false = grind (arith, nat_tests, early) in
      let mine : cond {A = ℕ} (eqb t.due m) 1 0 ≡ 0 = ap (λ (b : Bool). cond {A = ℕ} b 1 0) differs in
      absurd (omega (arith, some, count-cons (due_then m) t ts, mine, fewer, ordered.0))

-- no moment of requests is before one before which nothing stands that they name
module _ (timing : Timing) (reached bound : ℕ) where
  abbrev Late : List Request → Type 0
  Late rows = (m : ℕ) → 1 ≤ sum_by (λ (r : Request). count_by (due_then m) (named_by r)) rows → bound ≤ m

  late_head : (r : Request) (rows : List Request) → Late (r ∷ rows) → (m : ℕ) → 1 ≤ count_by (due_then m) (named_by r) → bound ≤ m
  late_head r rows late m some = late m (omega (arith, some, sum_by-cons (λ (x : Request). count_by (due_then m) (named_by x)) r rows))

  late_tail : (r : Request) (rows : List Request) → Late (r ∷ rows) → Late rows
  late_tail r rows late m some = late m (omega (arith, some, sum_by-cons (λ (x : Request). count_by (due_then m) (named_by x)) r rows))

  pub none_before : (rows : List Request) → All (IsKept reached) rows → Late rows → NoneBefore bound (map (λ (r : Request). r.open_request) rows)
  none_before [] kept late = tt
  none_before (r ∷ rows) kept late =
      all_append (λ (m : ℕ). bound ≤ m) (deadlines_of r.open_request) (flat_map deadlines_of (map (λ (x : Request). x.open_request) rows))
      (all_weaker (λ (m : ℕ). 1 ≤ count_by (due_then m) (named_by r)) (λ (m : ℕ). bound ≤ m) (late_head r rows late) (deadlines_of r.open_request)
      (deadlines_named timing reached r (All-head (IsKept reached) r rows kept)))
      (none_before rows (All-tail (IsKept reached) r rows kept) (late_tail r rows late))

  pub none_again_before : (rows : List Request) → All (IsKept reached) rows → Late rows → NoneAgainBefore bound (map (λ (r : Request). r.open_request) rows)
  none_again_before [] kept late = tt
  none_again_before (r ∷ rows) kept late =
      all_append (λ (m : ℕ). bound ≤ m) (resends_of r.open_request) (flat_map resends_of (map (λ (x : Request). x.open_request) rows))
      (all_weaker (λ (m : ℕ). 1 ≤ count_by (due_then m) (named_by r)) (λ (m : ℕ). bound ≤ m) (late_head r rows late) (resends_of r.open_request)
      (resends_named timing reached r (All-head (IsKept reached) r rows kept)))
      (none_again_before rows (All-tail (IsKept reached) r rows kept) (late_tail r rows late))
