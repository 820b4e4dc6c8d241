-- Timers that are placed and taken out, by counts.
use Rattle.std.proofs.Common.{◌≡◌, ℕ, ◌+◌, ◌≤◌, List, [], ◌∷◌, length, eqb, ltb, leb, cond, Bool, true, false, refl, ap, arith, add-one}
use Rattle.std.specs.Prelude.{not, ◌&&◌, count_by, insert}
use Rattle.std.proofs.lemmas.Bool.Decides.{nat_tests}
use Rattle.sip_timers.specs.declared.timer.Timer.{Timer}
use Rattle.sip_timers.specs.declared.timer.Name.{Name}
use Rattle.sip_timers.specs.Timers.{place_at, placed, without, keys_with, keys_from, Stands, due_before, AreOrdered}
use Rattle.sip_timers.proofs.Counting.{count-cons, count-filter, count_split, count_le}

pub place_at-le : (due : ℕ) (ts : List Timer) → place_at due ts ≤ length ts
place_at-le due [] = omega arith
place_at-le due (t ∷ ts) = grind (arith, nat_tests, place_at-le due ts)

pub placed_is : (t : Timer) (ts : List Timer) → insert ts (place_at t.due ts) t ≡ placed t ts
placed_is t [] = refl
placed_is t (u ∷ ts) = elim (ltb t.due u.due) as (λ b. insert (u ∷ ts) (cond b 0 (place_at t.due ts + 1)) t ≡ cond b (t ∷ u ∷ ts) (u ∷ placed t ts)) [
  | true ↦ refl
  | false ↦ rw add-one (ap (λ xs. u ∷ xs) (placed_is t ts))
]

pub count-placed : (p : Timer → Bool) (t : Timer) (ts : List Timer) → count_by p (placed t ts) ≡ count_by p ts + cond (p t) 1 0
count-placed p t [] = omega arith
count-placed p t (u ∷ ts) = elim (ltb t.due u.due) as (λ b. count_by p (cond b (t ∷ u ∷ ts) (u ∷ placed t ts)) ≡ count_by p (u ∷ ts) + cond (p t) 1 0) [
  | true ↦ omega (arith, count-cons p t (u ∷ ts))
  | false ↦ omega (arith, count-cons p u (placed t ts), count-cons p u ts, count-placed p t ts)
]

pub count-without : (p : Timer → Bool) (key : ℕ) (ts : List Timer) → count_by p (without key ts) ≡ count_by (λ t. not (eqb t.key key) && p t) ts
count-without p key ts = count-filter p (λ t. not (eqb t.key key)) ts

pub keys_with-le : (n : ℕ) (ts : List Timer) → keys_with n ts ≤ keys_from n ts
keys_with-le n ts = count_le (λ t. eqb t.key n) (λ t. leb n t.key) ts (λ t h. grind (arith, nat_tests))

pub keys_from-next : (n : ℕ) (ts : List Timer) → keys_from (n + 1) ts ≤ keys_from n ts
keys_from-next n ts = count_le (λ t. leb (n + 1) t.key) (λ t. leb n t.key) ts (λ t h. grind (arith, nat_tests))

-- all that goes with a key is the timer that has it
pub count_cancelled : (ts : List Timer) (t : Timer) → keys_with t.key ts ≤ 1 → Stands t ts → (p : Timer → Bool)
    → count_by p ts ≡ count_by p (without t.key ts) + cond (p t) 1 0
count_cancelled ts t once stands p =
    let q : Timer → Bool = λ u. eqb u.key t.key in
    let parts = count_split p q ts in
    let keys = count_split q p ts in
    let left = count-without p t.key ts in
    let same = stands (λ u. p u && q u) in
    let other = stands (λ u. not (p u) && q u) in
    let swapped : count_by (λ u. q u && p u) ts ≤ count_by (λ u. p u && q u) ts = count_le (λ u. q u && p u) (λ u. p u && q u) ts (λ u h. grind (arith, nat_tests)) in
    let back : count_by (λ u. p u && q u) ts ≤ count_by (λ u. q u && p u) ts = count_le (λ u. p u && q u) (λ u. q u && p u) ts (λ u h. grind (arith, nat_tests)) in
    grind (arith, nat_tests)

pub keys_from-placed : (n : ℕ) (due : ℕ) (name : Name) (ts : List Timer) → keys_from n ts ≡ 0
    → keys_from (n + 1) (placed (record { key = n; due = due; name = name }) ts) ≡ 0
keys_from-placed n due name ts h =
    let e = count-placed (λ t. leb (n + 1) t.key) (record { key = n; due = due; name = name }) ts in
    let le = keys_from-next n ts in
    grind (arith, nat_tests)

-- what is due before a moment is due before a later one
pub due_before-le : (a b : ℕ) (ts : List Timer) → a ≤ b → due_before a ts ≤ due_before b ts
due_before-le a b ts h = count_le (λ t. ltb t.due a) (λ t. ltb t.due b) ts (λ t k. grind (arith, nat_tests))

pub AreOrdered-placed : (t : Timer) (ts : List Timer) → AreOrdered ts → AreOrdered (placed t ts)
AreOrdered-placed t [] h = (refl, tt)
AreOrdered-placed t (u ∷ ts) h = elim (ltb t.due u.due) as (λ b. (ltb t.due u.due ≡ b) → AreOrdered (cond b (t ∷ u ∷ ts) (u ∷ placed t ts))) [
  | true ↦ (λ e. (grind (arith, nat_tests, count-cons (λ x. ltb x.due t.due) u ts, due_before-le t.due u.due ts), h))
  | false ↦ (λ e. (grind (arith, nat_tests, count-placed (λ x. ltb x.due u.due) t ts), AreOrdered-placed t ts h.1))
] refl

pub AreOrdered-without : (key : ℕ) (ts : List Timer) → AreOrdered ts → AreOrdered (without key ts)
AreOrdered-without key [] h = tt
AreOrdered-without key (t ∷ ts) h =
    let fewer : due_before t.due (without key ts) ≤ due_before t.due ts = rw (count-without (λ x. ltb x.due t.due) key ts)
    (count_le (λ x. not (eqb x.key key) && ltb x.due t.due) (λ x. ltb x.due t.due) ts (λ x k. grind (arith, nat_tests))) in
    elim (eqb t.key key) as (λ b. AreOrdered (cond (not b) (t ∷ without key ts) (without key ts))) [
      | true ↦ AreOrdered-without key ts h.1
      | false ↦ (omega arith, AreOrdered-without key ts h.1)
    ]
