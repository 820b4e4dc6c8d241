-- Lists of timers by the slots in which those of a moment stand.
use Rattle.std.proofs.Common.{◌≡◌, ◌≢◌, ℕ, zero, suc, ◌+◌, ◌≤◌, ◌<◌, List, [], ◌∷◌, ◌++◌, length, eqb, cond, Bool, true, false, refl, ap, ◌∙◌, arith, set}
use Rattle.std.specs.Prelude.{not, filter, count_by}
use Rattle.std.proofs.lemmas.Bool.Decides.{nat_tests}
use Rattle.std.proofs.lemmas.List.{append-nil, get_or-set_same, get_or-set_other}
use Rattle.std.proofs.lemmas.List.Elements.{filter-append}
use Rattle.std.proofs.lemmas.List.Sums.{sum_by-append}
use Rattle.sip_timers.specs.declared.timer.Timer.{Timer}
use Rattle.sip_timers.specs.Timers.{without, keys_with}
use Rattle.sip_timers_wheel.specs.Lists.{list_at, concat}
use Rattle.sip_timers_wheel.specs.Order.{due_at}
use Rattle.sip_timers.proofs.Counting.{count-cons}

-- ---- counts and filters

pub count-append : {X : Type 0} (p : X → Bool) (xs ys : List X) → count_by p (xs ++ ys) ≡ count_by p xs + count_by p ys
count-append p xs ys = sum_by-append (λ x. cond (p x) 1 0) xs ys

-- two filters in either order
pub filter-swap : {X : Type 0} (p q : X → Bool) (xs : List X) → filter p (filter q xs) ≡ filter q (filter p xs)
filter-swap p q [] = refl
filter-swap p q (x ∷ xs) =
    elim (p x) as (λ a. (p x ≡ a) → filter p (cond (q x) (x ∷ filter q xs) (filter q xs)) ≡ filter q (cond a (x ∷ filter p xs) (filter p xs))) [
      | true ↦ (λ ea. elim (q x) as (λ b. filter p (cond b (x ∷ filter q xs) (filter q xs)) ≡ cond b (x ∷ filter q (filter p xs)) (filter q (filter p xs))) [
        | true ↦ rw ea (ap (λ l. x ∷ l) (filter-swap p q xs))
        | false ↦ filter-swap p q xs
      ])
      | false ↦ (λ ea. elim (q x) as (λ b. filter p (cond b (x ∷ filter q xs) (filter q xs)) ≡ filter q (filter p xs)) [
        | true ↦ rw ea (filter-swap p q xs)
        | false ↦ filter-swap p q xs
      ])
    ] refl

-- nothing goes with a key that none has
pub without-none : (key : ℕ) (ts : List Timer) → keys_with key ts ≡ 0 → without key ts ≡ ts
without-none key [] h = refl
without-none key (t ∷ ts) h =
    elim (eqb t.key key) as (λ b. (eqb t.key key ≡ b) → cond (not b) (t ∷ without key ts) (without key ts) ≡ t ∷ ts) [
      | true ↦ (λ e. absurd (grind (arith, nat_tests, h, count-cons (λ u. eqb u.key key) t ts, e)))
      | false ↦ (λ e. ap (λ l. t ∷ l) (without-none key ts (grind (arith, h, count-cons (λ u. eqb u.key key) t ts))))
    ] refl

-- ---- what is due at a moment, in several lists

-- what is due at a moment stands in no list
due_at-nowhere : (d : ℕ) (lists : List (List Timer)) → ((i : ℕ) → due_at d (list_at lists i) ≡ []) → due_at d (concat lists) ≡ []
due_at-nowhere d [] h = refl
due_at-nowhere d (l ∷ lists) h =
    filter-append (λ t. eqb t.due d) l (concat lists)
    ∙ (ap (λ xs. xs ++ due_at d (concat lists)) (h 0) ∙ due_at-nowhere d lists (λ i. h (suc i)))

-- what is due at a moment stands in one list
pub due_at-concat : (d : ℕ) (lists : List (List Timer)) (slot : ℕ) → ((i : ℕ) → i ≢ slot → due_at d (list_at lists i) ≡ [])
    → due_at d (concat lists) ≡ due_at d (list_at lists slot)
due_at-concat d [] slot h = refl
due_at-concat d (l ∷ lists) zero h =
    filter-append (λ t. eqb t.due d) l (concat lists)
    ∙ (ap (λ xs. due_at d l ++ xs) (due_at-nowhere d lists (λ i. h (suc i) (λ e. grind (arith, e)))) ∙ append-nil (due_at d l))
due_at-concat d (l ∷ lists) (suc slot) h =
    filter-append (λ t. eqb t.due d) l (concat lists)
    ∙ (ap (λ xs. xs ++ due_at d (concat lists)) (h 0 (λ e. grind (arith, e))) ∙ due_at-concat d lists slot (λ i n. h (suc i) (λ e. n (grind (arith, e)))))

-- a list has no more than all have
pub count-at_le : (p : Timer → Bool) (lists : List (List Timer)) (slot : ℕ) → count_by p (list_at lists slot) ≤ count_by p (concat lists)
count-at_le p [] slot = omega arith
count-at_le p (l ∷ lists) zero = omega (arith, count-append p l (concat lists))
count-at_le p (l ∷ lists) (suc slot) = omega (arith, count-append p l (concat lists), count-at_le p lists slot)

-- ---- one list changed

pub list_at-same : (lists : List (List Timer)) (slot : ℕ) (ts : List Timer) → slot < length lists → list_at (set lists slot ts) slot ≡ ts
list_at-same lists slot ts h = get_or-set_same lists slot ts [] h

pub list_at-other : (lists : List (List Timer)) (slot i : ℕ) (ts : List Timer) → i ≢ slot → list_at (set lists slot ts) i ≡ list_at lists i
list_at-other lists slot i ts h = get_or-set_other lists slot i ts [] h
