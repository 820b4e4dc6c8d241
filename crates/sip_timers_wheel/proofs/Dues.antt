-- Which timer of a list is due first, and lists in rising order.
use Rattle.std.proofs.Common.{◌≡◌, ◌≢◌, ℕ, zero, suc, ◌+◌, ◌≤◌, List, [], ◌∷◌, ◌++◌, Option, Some, None, option_map, Bool, cond, ltb, eqb, true, false, refl, sym, ap}
use Rattle.std.proofs.Common.{subst, ◌∙◌, arith}
use Rattle.std.specs.Prelude.{IfSome, not}
use Rattle.std.proofs.lemmas.Bool.Decides.{nat_tests}
use Rattle.std.proofs.lemmas.List.Sums.{sum_by-cons, sum_by-append}
use Rattle.slab.specs.Slab.{Slab, get}
use Rattle.sip_timers.specs.declared.timer.Timer.{Timer}
use Rattle.sip_timers.specs.Timers.{keys_with, without, KeysDiffer, due_before, AreOrdered}
use Rattle.sip_timers_wheel.specs.declared.row.RowNumber.{RowNumber}
use Rattle.sip_timers_wheel.specs.declared.row.TimerRow.{TimerRow}
use Rattle.sip_timers_wheel.specs.Lists.{earlier, least}
use Rattle.sip_timers_wheel.specs.Threads.{number_of, last_or, timer_of, IsThread, all_but, all_but_least, timer_at, sooner}
use Rattle.sip_timers_wheel.proofs.Threads.{keys_with-here, keys_with-more, without_none, split_at}

pub due_before-cons : (moment : ℕ) (t : Timer) (ts : List Timer) → due_before moment (t ∷ ts) ≡ cond (ltb t.due moment) 1 0 + due_before moment ts
due_before-cons moment t ts = sum_by-cons (λ t. cond (ltb t.due moment) 1 0) t ts

pub due_before-append : (moment : ℕ) (xs ys : List Timer) → due_before moment (xs ++ ys) ≡ due_before moment xs + due_before moment ys
due_before-append moment xs ys = sum_by-append (λ t. cond (ltb t.due moment) 1 0) xs ys

sooner-assoc_three : (t u v : Timer) → sooner (Some (earlier t (Some u))) (Some v) ≡ sooner (Some t) (Some (earlier u (Some v)))
sooner-assoc_three t u v =
    elim (ltb u.due t.due) as (λ b. (ltb u.due t.due ≡ b) → Some (earlier (cond b u t) (Some v)) ≡ Some (earlier t (Some (cond (ltb v.due u.due) v u)))) [
      | true ↦ (λ e. elim (ltb v.due u.due) as (λ c. (ltb v.due u.due ≡ c) → Some (cond c v u) ≡ Some (earlier t (Some (cond c v u)))) [
        | true ↦ (λ f. let less : ltb v.due t.due ≡ true = grind (arith, nat_tests) in rw less refl)
        | false ↦ (λ f. rw e refl)
      ] refl)
      | false ↦ (λ e. elim (ltb v.due u.due) as (λ c. (ltb v.due u.due ≡ c) → Some (earlier t (Some v)) ≡ Some (earlier t (Some (cond c v u)))) [
        | true ↦ (λ f. refl)
        | false ↦ (λ f. let more : ltb v.due t.due ≡ false = grind (arith, nat_tests) in rw (more, e) refl)
      ] refl)
    ] refl

pub sooner-assoc : (a b c : Option Timer) → sooner (sooner a b) c ≡ sooner a (sooner b c)
sooner-assoc None b c = refl
sooner-assoc (Some t) None c = refl
sooner-assoc (Some t) (Some u) None = refl
sooner-assoc (Some t) (Some u) (Some v) = sooner-assoc_three t u v

pub least-append : (xs ys : List Timer) → least (xs ++ ys) ≡ sooner (least xs) (least ys)
least-append [] ys = refl
least-append (t ∷ xs) ys = ap (λ o. sooner (Some t) o) (least-append xs ys) ∙ sym (sooner-assoc (Some t) (least xs) (least ys))

pub least-put : (ts : List Timer) (t : Timer) → least (ts ++ t ∷ []) ≡ sooner (least ts) (Some t)
least-put ts t = least-append ts (t ∷ [])

abbrev key_or_zero : Option Timer → ℕ
key_or_zero None = 0
key_or_zero (Some t) = t.key

same_key : (t u : Timer) → Some t ≡ Some u → u.key ≡ t.key
same_key t u e = sym (ap key_or_zero e)

not_first_of_two : (t u w : Timer) → u.key ≢ t.key → Some (cond (ltb t.due w.due) t w) ≡ Some u → Some w ≡ Some u
not_first_of_two t u w other =
    elim (ltb t.due w.due) as (λ b. Some (cond b t w) ≡ Some u → Some w ≡ Some u) [
      | true ↦ (λ e. absurd (other (same_key t u e)))
      | false ↦ (λ e. e)
    ]

not_last_of_two : (t u v : Timer) → u.key ≢ t.key → Some (cond (ltb v.due t.due) v t) ≡ Some u → Some v ≡ Some u
not_last_of_two t u v other =
    elim (ltb v.due t.due) as (λ b. Some (cond b v t) ≡ Some u → Some v ≡ Some u) [
      | true ↦ (λ e. e)
      | false ↦ (λ e. absurd (other (same_key t u e)))
    ]

front_of_three : (t u v w : Timer) → u.key ≢ t.key → ltb v.due t.due ≡ false → Some (cond (ltb t.due w.due) t w) ≡ Some u → Some (cond (ltb v.due w.due) v w) ≡ Some u
front_of_three t u v w other f =
    elim (ltb t.due w.due) as (λ b. (ltb t.due w.due ≡ b) → Some (cond b t w) ≡ Some u → Some (cond (ltb v.due w.due) v w) ≡ Some u) [
      | true ↦ (λ g e. absurd (other (same_key t u e)))
      | false ↦ (λ g e. let more : ltb v.due w.due ≡ false = grind (arith, nat_tests) in rw more e)
    ] refl

not_of_three : (t u v w : Timer) → u.key ≢ t.key → Some (earlier w (Some (cond (ltb v.due t.due) v t))) ≡ Some u → Some (cond (ltb v.due w.due) v w) ≡ Some u
not_of_three t u v w other =
    elim (ltb v.due t.due) as (λ b. (ltb v.due t.due ≡ b) → Some (earlier w (Some (cond b v t))) ≡ Some u → Some (cond (ltb v.due w.due) v w) ≡ Some u) [
      | true ↦ (λ f e. e)
      | false ↦ (λ f e. front_of_three t u v w other f e)
    ] refl

-- when one that isn't due first is taken out, the same one is due first
without_other : (a b : Option Timer) (t u : Timer) → u.key ≢ t.key → sooner a (sooner (Some t) b) ≡ Some u → sooner a b ≡ Some u
without_other None None t u other e = absurd (other (same_key t u e))
without_other None (Some v) t u other e = not_last_of_two t u v other e
without_other (Some w) None t u other e = not_first_of_two t u w other e
without_other (Some w) (Some v) t u other e = not_of_three t u v w other e

pub least-taken : (front back : List Timer) (t u : Timer) → u.key ≢ t.key → least (front ++ t ∷ back) ≡ Some u → least (front ++ back) ≡ Some u
least-taken front back t u other e =
    rw (least-append front back) (without_other (least front) (least back) t u other (rw (least-append front (t ∷ back)) at e))

-- the same when those of a key are taken out
pub least-without : (key : ℕ) (ts : List Timer) (u : Timer) → KeysDiffer ts → u.key ≢ key → least ts ≡ Some u → least (without key ts) ≡ Some u
least-without key ts u differ other e = by_count (keys_with key ts) refl
  where
    by_count : (n : ℕ) → keys_with key ts ≡ n → least (without key ts) ≡ Some u
    by_count zero none = ap least (without_none key ts none) ∙ e
    by_count (suc n) some =
        let split = split_at key ts differ (omega (arith, some)) in
        ap least split.rest ∙ least-taken split.front split.back split.timer u (λ f. other (f ∙ split.keyed)) (sym (ap least split.whole) ∙ e)

one_with_key : (ts : List Timer) (t u : Timer) → Some t ≡ Some u → 1 ≤ keys_with t.key ts → 1 ≤ keys_with u.key ts
one_with_key ts t u e stands = let P : ℕ → Type 0 = λ k. 1 ≤ keys_with k ts in subst P (sym (same_key t u e)) stands

-- the timer that is due first stands among them
pub least_is_one : (ts : List Timer) (u : Timer) → least ts ≡ Some u → 1 ≤ keys_with u.key ts
least_is_one [] u e = absurd (cc)
least_is_one (t ∷ ts) u e = by_rest (least ts) (λ v f. least_is_one ts v f) e
  where
    by_rest : (o : Option Timer) → ((v : Timer) → o ≡ Some v → 1 ≤ keys_with v.key ts) → Some (earlier t o) ≡ Some u → 1 ≤ keys_with u.key (t ∷ ts)
    by_rest None later e = one_with_key (t ∷ ts) t u e (keys_with-here t ts)
    by_rest (Some v) later e = elim (ltb v.due t.due) as (λ b. Some (cond b v t) ≡ Some u → 1 ≤ keys_with u.key (t ∷ ts)) [
      | true ↦ (λ f. one_with_key (t ∷ ts) v u f (omega (arith, later v refl, keys_with-more v.key t ts)))
      | false ↦ (λ f. one_with_key (t ∷ ts) t u f (keys_with-here t ts))
    ] e

bound_of : (moment : ℕ) (t u : Timer) → ltb t.due moment ≡ false → Some t ≡ Some u → ltb u.due moment ≡ false
bound_of moment t u bound e =
    let P : Option Timer → Type 0 = λ o. IfSome o (λ v. ltb v.due moment ≡ false) in subst P e bound

bound_of_two : (moment : ℕ) (t u v : Timer) → ltb t.due moment ≡ false → ltb v.due moment ≡ false → Some (cond (ltb v.due t.due) v t) ≡ Some u → ltb u.due moment ≡ false
bound_of_two moment t u v first second =
    elim (ltb v.due t.due) as (λ b. Some (cond b v t) ≡ Some u → ltb u.due moment ≡ false) [
      | true ↦ (λ e. bound_of moment v u second e)
      | false ↦ (λ e. bound_of moment t u first e)
    ]

-- who is due first is not due before a moment before which none is
least_bound : (moment : ℕ) (ts : List Timer) (u : Timer) → due_before moment ts ≡ 0 → least ts ≡ Some u → ltb u.due moment ≡ false
least_bound moment [] u none e = absurd (cc)
least_bound moment (t ∷ ts) u none e =
    let rest : due_before moment ts ≡ 0 = omega (arith, due_before-cons moment t ts) in
    let first : ltb t.due moment ≡ false = grind (arith, nat_tests, due_before-cons moment t ts) in
    by_rest (least ts) (λ v f. least_bound moment ts v rest f) first e
  where
    by_rest : (o : Option Timer) → ((v : Timer) → o ≡ Some v → ltb v.due moment ≡ false) → ltb t.due moment ≡ false → Some (earlier t o) ≡ Some u
        → ltb u.due moment ≡ false
    by_rest None later first e = bound_of moment t u first e
    by_rest (Some v) later first e = bound_of_two moment t u v first (later v refl) e

-- of a list in rising order the first one is due first
pub least_rising : (t : Timer) (ts : List Timer) → AreOrdered (t ∷ ts) → least (t ∷ ts) ≡ Some t
least_rising t ts h = by_rest (least ts) (λ u e. least_bound t.due ts u h.0 e)
  where
    by_rest : (o : Option Timer) → ((u : Timer) → o ≡ Some u → ltb u.due t.due ≡ false) → Some (earlier t o) ≡ Some t
    by_rest None bound = refl
    by_rest (Some u) bound = rw (bound u refl) refl

stands_of : (rows : Slab TimerRow) (t u : Timer) → timer_at rows (number_of t) ≡ Some t → Some t ≡ Some u → timer_at rows (number_of u) ≡ Some u
stands_of rows t u here e =
    let P : Option Timer → Type 0 = λ o. IfSome o (λ v. timer_at rows (number_of v) ≡ Some v) in subst P e here

stands_of_two : (rows : Slab TimerRow) (t u v : Timer) → timer_at rows (number_of t) ≡ Some t → timer_at rows (number_of v) ≡ Some v
    → Some (cond (ltb v.due t.due) v t) ≡ Some u → timer_at rows (number_of u) ≡ Some u
stands_of_two rows t u v first second =
    elim (ltb v.due t.due) as (λ b. Some (cond b v t) ≡ Some u → timer_at rows (number_of u) ≡ Some u) [
      | true ↦ (λ e. stands_of rows v u second e)
      | false ↦ (λ e. stands_of rows t u first e)
    ]

stands_of_earlier : (rows : Slab TimerRow) (t u : Timer) (o : Option Timer) → timer_at rows (number_of t) ≡ Some t
    → ((v : Timer) → o ≡ Some v → timer_at rows (number_of v) ≡ Some v) → Some (earlier t o) ≡ Some u → timer_at rows (number_of u) ≡ Some u
stands_of_earlier rows t u None here later e = stands_of rows t u here e
stands_of_earlier rows t u (Some v) here later e = stands_of_two rows t u v here (later v refl) e

-- the timer that is due first has its row
pub least_stands : (rows : Slab TimerRow) (before : Option RowNumber) (ts : List Timer) (after : Option RowNumber) (u : Timer) → IsThread rows before ts after
    → least ts ≡ Some u → timer_at rows (number_of u) ≡ Some u
least_stands rows before [] after u p e = absurd (cc)
least_stands rows before (t ∷ ts) after u p e =
    stands_of_earlier rows t u (least ts) (ap (λ o. option_map (timer_of t.key) o) p.0) (λ v f. least_stands rows (Some (number_of t)) ts after v p.1 f) e

-- so has the one that is due first when those of a key are taken out
pub least_stands_without : (rows : Slab TimerRow) (before : Option RowNumber) (ts : List Timer) (after : Option RowNumber) (key : ℕ) (u : Timer)
    → IsThread rows before ts after → least (without key ts) ≡ Some u → timer_at rows (number_of u) ≡ Some u
least_stands_without rows before [] after key u p e = absurd (cc)
least_stands_without rows before (t ∷ ts) after key u p e = by_key (eqb t.key key) (λ v f. least_stands_without rows (Some (number_of t)) ts after key v p.1 f) e
  where
    by_key : (b : Bool) → ((v : Timer) → least (without key ts) ≡ Some v → timer_at rows (number_of v) ≡ Some v)
        → least (cond (not b) (t ∷ without key ts) (without key ts)) ≡ Some u → timer_at rows (number_of u) ≡ Some u
    by_key true later e = later u e
    by_key false later e = stands_of_earlier rows t u (least (without key ts)) (ap (λ o. option_map (timer_of t.key) o) p.0) later e

-- so has the one that is due first but for one other
pub second_stands : (rows : Slab TimerRow) (ts : List Timer) (u : Timer) → IsThread rows None ts None → least (all_but_least ts) ≡ Some u
    → timer_at rows (number_of u) ≡ Some u
second_stands rows ts u p e = by_least (least ts) e
  where
    by_least : (o : Option Timer) → least (all_but o ts) ≡ Some u → timer_at rows (number_of u) ≡ Some u
    by_least None e = absurd (cc)
    by_least (Some t) e = least_stands_without rows None ts None t.key u p e

-- ---- lists in rising order

-- a timer that is due no earlier than the last one goes behind it
pub AreOrdered-put : (rows : Slab TimerRow) (before : Option RowNumber) (ts : List Timer) (after : Option RowNumber) (t : Timer) → IsThread rows before ts after
    → AreOrdered ts → ((key : ℕ) (row : TimerRow) → 1 ≤ keys_with key ts → last_or ts before ≡ Some (record { 0 = key }) → get rows key ≡ Some row → row.due ≤ t.due)
    → AreOrdered (ts ++ t ∷ [])
AreOrdered-put rows before [] after t p h late = (refl, tt)
AreOrdered-put rows before (u ∷ []) after t p h late =
    let le : u.due ≤ t.due = late u.key _ (keys_with-here u []) refl p.0 in
    (grind (arith, nat_tests, due_before-cons u.due t []), (refl, tt))
AreOrdered-put rows before (u ∷ w ∷ ws) after t p h late =
    let rest : AreOrdered ((w ∷ ws) ++ t ∷ []) = AreOrdered-put rows (Some (number_of u)) (w ∷ ws) after t p.1 h.1
    (λ key row k. late key row (omega (arith, keys_with-more key u (w ∷ ws)))) in
    (first_before u w ws t h.0 rest.0, rest)
  where
    first_before : (u w : Timer) (ws : List Timer) (t : Timer) → due_before u.due (w ∷ ws) ≡ 0 → due_before w.due (ws ++ t ∷ []) ≡ 0
        → due_before u.due (w ∷ (ws ++ t ∷ [])) ≡ 0
    first_before u w ws t a b =
        grind (
          arith,
          nat_tests,
          due_before-cons u.due w ws,
          due_before-cons u.due w (ws ++ t ∷ []),
          due_before-append w.due ws (t ∷ []),
          due_before-append u.due ws (t ∷ []),
          due_before-cons w.due t [],
          due_before-cons u.due t [],
        )
