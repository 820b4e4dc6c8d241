-- Where nothing is due before a moment, no timer is.
use Rattle.std.proofs.Common.{◌≡◌, ℕ, ◌+◌, ◌≤◌, Bool, false, List, [], ◌∷◌, ◌++◌, map, flat_map, Option, Some, None, refl, subst, arith, leb}
use Rattle.std.specs.Prelude.{count_by}
use Rattle.std.specs.Option.{option_to_list}
use Rattle.std.specs.List.{AllByRecursion, filter_map, cons_option, sum_by}
use Rattle.std.proofs.lemmas.Bool.Decides.{nat_tests}
use Rattle.std.proofs.lemmas.List.Sums.{sum_by-cons}
use Rattle.sip_timers.specs.declared.letter.Letter.{Letter}
use Rattle.sip_timers.specs.declared.timer.Owner.TheVariants as Of
use Rattle.sip_timers.specs.declared.timer.Timer.{Timer}
use Rattle.sip_dialog_updates.specs.state.declared.branch.Branch.{Branch}
use Rattle.sip_dialog_updates.specs.state.declared.open_request.OpenRequest.{OpenRequest}
use Rattle.sip_dialog_updates.specs.state.State.{phase_deadline, side_deadline, deadlines_of}
use Rattle.model_steps.specs.context_model.Retransmission.{answer_due, branch_due, resends_of}
use Rattle.sip_request.specs.transactions_model.Ties.{branch_timers, branches_timers, owner_of, part_timers, side_timers}
use Rattle.sip_request.specs.transactions_model.declared.timer_keys.TimerKeys.{TimerKeys}
use Rattle.sip_fork.proofs.Lists.{count-append}
use Rattle.sip_fork.proofs.Parts.{count_part}
use Rattle.model_steps.specs.Step.{NoneBefore, NoneAgainBefore}
use Rattle.sip_request.specs.Named.{named_by}
use Rattle.sip_request.specs.declared.request.Request.{Request}
use Rattle.sip_fork.specs.Timing.{Timing}
use Rattle.sip_fork.proofs.Reasons.{none_of_part}

front : {X : Type 0} (P : X → Type 0) (xs ys : List X) → AllByRecursion P (xs ++ ys) → AllByRecursion P xs
front P [] ys all = tt
front P (x ∷ xs) ys all = (all.0, front P xs ys all.1)

back : {X : Type 0} (P : X → Type 0) (xs ys : List X) → AllByRecursion P (xs ++ ys) → AllByRecursion P ys
back P [] ys all = all
back P (x ∷ xs) ys all = back P xs ys all.1

of_option : (P : ℕ → Type 0) (o : Option ℕ) → AllByRecursion P (option_to_list o) → (m : ℕ) → o ≡ Some m → P m
of_option P None all m e = absurd (cc)
of_option P (Some n) all m e = let same : n ≡ m = cc in subst P same all.0

of_first : (P : ℕ → Type 0) (o : Option ℕ) (ms : List ℕ) → AllByRecursion P (cons_option o ms) → (m : ℕ) → o ≡ Some m → P m
of_first P None ms all m e = absurd (cc)
of_first P (Some n) ms all m e = let same : n ≡ m = cc in subst P same all.0

of_rest : (P : ℕ → Type 0) (o : Option ℕ) (ms : List ℕ) → AllByRecursion P (cons_option o ms) → AllByRecursion P ms
of_rest P None ms all = all
of_rest P (Some n) ms all = all.1

module _ (timing : Timing) (k : ℕ) where
  abbrev Later : ℕ → Type 0
  Later m = k + 1 ≤ m

  -- whether a timer is due by a moment
  abbrev by_then : Timer → Bool
  by_then t = leb t.due k

  fails : (m : ℕ) → Later m → leb m k ≡ false
  fails m late = grind (arith, nat_tests, late)

  branch_passes : (r : OpenRequest) (bs : List Branch) (keys : List TimerKeys) → AllByRecursion Later (filter_map (λ (b : Branch). phase_deadline b.phase) bs)
      → AllByRecursion Later (filter_map (branch_due r) bs)
      → count_by by_then (branches_timers r bs keys) ≡ 0
  branch_passes r [] keys ends again = refl
  branch_passes r (b ∷ bs) [] ends again = refl
  branch_passes r (b ∷ bs) (key ∷ keys) ends again =
      let mine : List Timer = part_timers r.number (owner_of b) key (branch_timers r b) in
      let rest : List Timer = branches_timers r bs keys in
      let moments : count_by by_then mine ≡ count_by (λ (t : Letter × ℕ). leb t.1 k) (branch_timers r b) =
      count_part by_then r.number (owner_of b) key (branch_timers r b) in
      let ending : (m : ℕ) → phase_deadline b.phase ≡ Some m → Later m = of_first Later (phase_deadline b.phase) (filter_map (λ (x : Branch). phase_deadline x.phase) bs)
      ends in
      let none : count_by (λ (t : Letter × ℕ). leb t.1 k) (branch_timers r b) ≡ 0 =
      none_of_part (λ m. leb m k) (branch_due r b) (phase_deadline b.phase) (branch_timers r b) (timing.branch_reasons r b)
      (λ m e. fails m (of_first Later (branch_due r b) (filter_map (branch_due r) bs) again m e)) (λ m e. fails m (ending m e))
      (λ m until e lt. fails m (let le : k + 1 ≤ until = ending until e in omega (arith, le, lt))) in
      omega (
        arith,
        moments,
        none,
        count-append by_then mine rest,
        branch_passes r bs keys (of_rest Later (phase_deadline b.phase) (filter_map (λ (x : Branch). phase_deadline x.phase) bs) ends)
            (of_rest Later (branch_due r b) (filter_map (branch_due r) bs) again),
      )

  row_passes : (r : Request) → AllByRecursion Later (deadlines_of r.open_request) → AllByRecursion Later (resends_of r.open_request) → count_by by_then (named_by r) ≡ 0
  row_passes r ends again =
      let call : OpenRequest = r.open_request in
      let of_side : List Timer = part_timers call.number Of.Server r.side (side_timers call) in
      let of_branches : List Timer = branches_timers call call.branches r.branches in
      let side_ends : AllByRecursion Later (option_to_list (side_deadline call.side)) =
      front Later (option_to_list (side_deadline call.side)) (filter_map (λ (b : Branch). phase_deadline b.phase) call.branches) ends in
      let branch_ends : AllByRecursion Later (filter_map (λ (b : Branch). phase_deadline b.phase) call.branches) =
      back Later (option_to_list (side_deadline call.side)) (filter_map (λ (b : Branch). phase_deadline b.phase) call.branches) ends in
      let side_again : AllByRecursion Later (option_to_list (answer_due call)) = front Later (option_to_list (answer_due call))
      (filter_map (branch_due call) call.branches) again in
      let branch_again : AllByRecursion Later (filter_map (branch_due call) call.branches) =
      back Later (option_to_list (answer_due call)) (filter_map (branch_due call) call.branches) again in
      let moments : count_by by_then of_side ≡ count_by (λ (t : Letter × ℕ). leb t.1 k) (side_timers call) =
      count_part by_then call.number Of.Server r.side (side_timers call) in
      let none : count_by (λ (t : Letter × ℕ). leb t.1 k) (side_timers call) ≡ 0 =
      none_of_part (λ m. leb m k) (answer_due call) (side_deadline call.side) (side_timers call) (timing.side_reasons call)
      (λ m e. fails m (of_option Later (answer_due call) side_again m e)) (λ m e. fails m (of_option Later (side_deadline call.side) side_ends m e))
      (λ m until e lt. fails m (let le : k + 1 ≤ until = of_option Later (side_deadline call.side) side_ends until e in omega (arith, le, lt))) in
      omega (arith, moments, none, branch_passes call call.branches r.branches branch_ends branch_again, count-append by_then of_side of_branches)

  pub rows_pass : (rows : List Request) → NoneBefore (k + 1) (map (λ (r : Request). r.open_request) rows)
      → NoneAgainBefore (k + 1) (map (λ (r : Request). r.open_request) rows)
      → sum_by (λ (r : Request). count_by (λ (t : Timer). leb t.due k) (named_by r)) rows ≡ 0
  rows_pass [] ends again = refl
  rows_pass (r ∷ rows) ends again =
      let others : List OpenRequest = map (λ (x : Request). x.open_request) rows in
      omega (
        arith,
        sum_by-cons (λ (x : Request). count_by (λ (t : Timer). leb t.due k) (named_by x)) r rows,
        row_passes r (front Later (deadlines_of r.open_request) (flat_map deadlines_of others) ends)
            (front Later (resends_of r.open_request) (flat_map resends_of others) again),
        rows_pass rows (back Later (deadlines_of r.open_request) (flat_map deadlines_of others) ends)
            (back Later (resends_of r.open_request) (flat_map resends_of others) again),
      )
