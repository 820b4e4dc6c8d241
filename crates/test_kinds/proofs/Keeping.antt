-- Keys that are kept while timers are set, cancelled and taken.
use Rattle.std.proofs.Common.{◌≡◌, ℕ, ◌+◌, ◌≤◌, List, [], ◌∷◌, ◌++◌, cond, eqb, Bool, true, false, refl, arith}
use Rattle.std.specs.Prelude.{not, ◌&&◌, count_by}
use Rattle.std.proofs.lemmas.Bool.Decides.{nat_tests}
use Rattle.std.proofs.lemmas.List.Sums.{sum_by_push}
use Rattle.sip_timers.specs.declared.timer.Timer.{Timer}
use Rattle.sip_timers.specs.Timers.{placed, without, keys_with}
use Rattle.sip_timers.proofs.Counting.{count-cons, count-filter, count_le}
use Rattle.sip_timers.proofs.Placing.{count-placed, count-without}
use Rattle.test_kinds.specs.declared.keyed.KeyedRow.{KeyedRow}
use Rattle.test_kinds.specs.Keys.{times_kept, without_key, AreKeysOf}

pub count_none : {X : Type 0} (p : X → Bool) (xs : List X) → ((x : X) → p x ≡ false) → count_by p xs ≡ 0
count_none p [] h = refl
count_none p (x ∷ xs) h = grind (arith, count_none p xs h, count-cons p x xs, h x)

-- a key that is kept no longer isn't kept
pub not_kept : (key : ℕ) (kept : List KeyedRow) → times_kept key (without_key key kept) ≡ 0
not_kept key kept =
    let e = count-filter (λ (k : KeyedRow). eqb k.key key) (λ k. not (eqb k.key key)) kept in
    let none = count_none (λ (k : KeyedRow). not (eqb k.key key) && eqb k.key key) kept (λ k. grind (arith, nat_tests)) in
    omega (arith, e, none)

-- no key is kept more often then
pub kept_less : (key other : ℕ) (kept : List KeyedRow) → times_kept other (without_key key kept) ≤ times_kept other kept
kept_less key other kept =
    let e = count-filter (λ (k : KeyedRow). eqb k.key other) (λ k. not (eqb k.key key)) kept in
    let le = count_le (λ (k : KeyedRow). not (eqb k.key key) && eqb k.key other) (λ k. eqb k.key other) kept (λ k h. grind (arith, nat_tests)) in
    omega (arith, e, le)

-- the timers of other keys stand as often as before
pub others_stand : (key other : ℕ) (ts : List Timer) → eqb other key ≡ false → keys_with other ts ≤ keys_with other (without key ts)
others_stand key other ts differ =
    let e = count-without (λ t. eqb t.key other) key ts in
    let le = count_le (λ (t : Timer). eqb t.key other) (λ t. not (eqb t.key key) && eqb t.key other) ts (λ t h. grind (arith, nat_tests)) in
    omega (arith, e, le)

pub keys_cancelled : (key : ℕ) (kept : List KeyedRow) (ts : List Timer) → AreKeysOf kept ts → AreKeysOf (without_key key kept) (without key ts)
keys_cancelled key kept ts h other = elim (eqb other key) as (λ b. (eqb other key ≡ b) → times_kept other (without_key key kept) ≤ keys_with other (without key ts)) [
  | true ↦ (λ e. grind (arith, nat_tests, not_kept key kept))
  | false ↦ (λ e. omega (arith, kept_less key other kept, others_stand key other ts e, h other))
] refl

pub keys_popped : (t : Timer) (kept : List KeyedRow) (ts : List Timer) → AreKeysOf kept (t ∷ ts) → AreKeysOf (without_key t.key kept) ts
keys_popped t kept ts h other = elim (eqb other t.key) as (λ b. (eqb other t.key ≡ b) → times_kept other (without_key t.key kept) ≤ keys_with other ts) [
  | true ↦ (λ e. grind (arith, nat_tests, not_kept t.key kept))
  | false ↦ (λ e. grind (arith, nat_tests, kept_less t.key other kept, count-cons (λ (u : Timer). eqb u.key other) t ts, h other))
] refl

pub keys_placed : (t : Timer) (kept : List KeyedRow) (ts : List Timer) → AreKeysOf kept ts → AreKeysOf kept (placed t ts)
keys_placed t kept ts h other = omega (arith, count-placed (λ u. eqb u.key other) t ts, h other)

pub keys_pushed : (t : Timer) (new : KeyedRow) (kept : List KeyedRow) (ts : List Timer) → new.key ≡ t.key → AreKeysOf kept ts → AreKeysOf (kept ++ new ∷ []) (placed t ts)
keys_pushed t new kept ts same h other =
    let pushed = sum_by_push (λ (k : KeyedRow). cond (eqb k.key other) 1 0) kept new in
    let stands = count-placed (λ u. eqb u.key other) t ts in
    grind (arith, nat_tests, pushed, stands, h other)
