-- Lists: what is there, what holds of all, how many pass a test, and what replacing an open request leaves.
use Rattle.std.proofs.Common.{◌≡◌, inr, ℕ, ◌+◌, ◌<◌, ◌≤◌, Bool, true, false, cond, ◌==◌, List, [], ◌∷◌, ◌++◌, filter, Contains, Option}
use Rattle.std.proofs.Common.{Some, None, option_and_then, refl, ap, arith, count_by, nat_le}
use Rattle.std.specs.List.{AllByRecursion}
use Rattle.std.proofs.lemmas.Bool.Decides.{nat_tests}
use Rattle.std.proofs.lemmas.List.Sums.{sum_by_push}
use Rattle.model_steps.specs.state.declared.open_request.OpenRequest.{OpenRequest}
use Rattle.model_steps.specs.state.State.{has_left}
use Rattle.model_steps.specs.Effect.{replaced}
use Rattle.sip_model.specs.Order.{is_numbered, AreNumbered}
use Rattle.sip_model.proofs.Places.{IsIn, contains_from_in, count_cons, counts_in, in_from_contains, none_at, one_at, same_number}
use Rattle.sip_model.proofs.Rising.{number_is}

-- ---- options

-- what follows where one answer is made of another
pub followed : {A B : Type 0} (o : Option A) (f : A → Option B) (y : B) → option_and_then f o ≡ Some y → (x : A) × (o ≡ Some x) × (f x ≡ Some y)
followed None f y e = absurd (cc)
followed (Some x) f y e = (x, refl, e)

-- ---- membership

-- what is there is there behind one more
pub contained_behind : {X : Type 0} (x : X) (xs : List X) (y : X) → Contains xs y → Contains (x ∷ xs) y
contained_behind x xs y h = contains_from_in (x ∷ xs) y (inr (in_from_contains xs y h))

-- ---- counts

-- where none counts, whatever passes one test passes another
pub kept_pass : {X : Type 0} (p q r : X → Bool) (xs : List X) → ((x : X) → p x ≡ true → r x ≡ false → q x ≡ true) → count_by r xs ≡ 0
    → AllByRecursion (λ (x : X). q x ≡ true) (filter p xs)
kept_pass p q r [] passes none = tt
kept_pass {X = X} p q r (x ∷ xs) passes none = by_test (r x) (p x) refl refl (kept_pass p q r xs passes (omega (arith, none, count_cons r x xs))) where
  by_test : (u t : Bool) → r x ≡ u → p x ≡ t → AllByRecursion (λ (y : X). q y ≡ true) (filter p xs)
      → AllByRecursion (λ (y : X). q y ≡ true) (cond t (x ∷ filter p xs) (filter p xs))
  by_test true t counts is rest = absurd (omega (arith, none, count_cons r x xs, one_at (r x) counts))
  by_test false true fails is rest = (passes x is fails, rest)
  by_test false false fails is rest = rest

-- ---- numbers

-- a number below another isn't it
pub below_apart : (a b : ℕ) → a < b → (a == b) ≡ false
below_apart a b h = grind (arith, nat_tests)

-- ---- replacing

-- what holds of all, and follows for those of another number
pub all_others : (P Q : OpenRequest → Type 0) (k : ℕ) (rs : List OpenRequest) → count_by (is_numbered k) rs ≡ 0
    → ((x : OpenRequest) → (x.number == k) ≡ false → P x → Q x)
    → AllByRecursion P rs → AllByRecursion Q rs
all_others P Q k [] none lifts all = tt
all_others P Q k (x ∷ xs) none lifts all = (by_test (x.number == k) refl, all_others P Q k xs (omega (arith, none, count_cons (is_numbered k) x xs)) lifts all.1) where
  by_test : (t : Bool) → (x.number == k) ≡ t → Q x
  by_test true is = absurd (omega (arith, none, count_cons (is_numbered k) x xs, one_at (is_numbered k x) is))
  by_test false is = lifts x is all.0

-- so it does where a request replaces the only one of its number, if it holds of that one
pub all_replaced : (P Q : OpenRequest → Type 0) (new : OpenRequest) (rs : List OpenRequest) → count_by (is_numbered new.number) rs ≤ 1
    → ((x : OpenRequest) → (x.number == new.number) ≡ false → P x → Q x) → Q new → AllByRecursion P rs
    → AllByRecursion Q (replaced new rs)
all_replaced P Q new [] few lifts holds all = tt
all_replaced P Q new (x ∷ xs) few lifts holds all =
    by_test (x.number == new.number) (has_left new) refl (all_replaced P Q new xs (omega (arith, few, count_cons (is_numbered new.number) x xs)) lifts holds all.1) where
      others : (x.number == new.number) ≡ true → AllByRecursion Q xs
      others is = all_others P Q new.number xs (omega (arith, few, count_cons (is_numbered new.number) x xs, one_at (is_numbered new.number x) is)) lifts all.1

      by_test : (t left : Bool) → (x.number == new.number) ≡ t → AllByRecursion Q (replaced new xs)
          → AllByRecursion Q (cond t (cond left xs (new ∷ xs)) (x ∷ replaced new xs))
      by_test true true is rest = others is
      by_test true false is rest = (holds, others is)
      by_test false left is rest = (lifts x is all.0, rest)

-- no number is there more often once a request replaced another
count_replaced : (n : ℕ) (new : OpenRequest) (rs : List OpenRequest) → count_by (is_numbered n) (replaced new rs) ≤ count_by (is_numbered n) rs
count_replaced n new [] = omega arith
count_replaced n new (x ∷ xs) = by_test (x.number == new.number) (has_left new) refl (count_replaced n new xs) where
  by_test : (t left : Bool) → (x.number == new.number) ≡ t → count_by (is_numbered n) (replaced new xs) ≤ count_by (is_numbered n) xs
      → count_by (is_numbered n) (cond t (cond left xs (new ∷ xs)) (x ∷ replaced new xs)) ≤ count_by (is_numbered n) (x ∷ xs)
  by_test true true is rest = omega (arith, count_cons (is_numbered n) x xs)
  by_test true false is rest =
      let same : cond {A = ℕ} (x.number == n) 1 0 ≡ cond {A = ℕ} (new.number == n) 1 0 = ap (λ (v : ℕ). cond {A = ℕ} (v == n) 1 0) (number_is x.number new.number is) in
      omega (arith, count_cons (is_numbered n) x xs, count_cons (is_numbered n) new xs, same)
  by_test false left is rest = omega (arith, count_cons (is_numbered n) x xs, count_cons (is_numbered n) x (replaced new xs), rest)

-- numbers differ as before
pub numbered_replaced : (next : ℕ) (new : OpenRequest) (rs : List OpenRequest) → AreNumbered next rs → AreNumbered next (replaced new rs)
numbered_replaced next new rs h = record {
  differ = λ n. omega (arith, h.differ n, count_replaced n new rs);
  are_below = λ n high. omega (arith, h.are_below n high, count_replaced n new rs);
}

-- and with one more, of the next number
pub numbered_push : (next : ℕ) (r : OpenRequest) (rs : List OpenRequest) → r.number ≡ next → AreNumbered next rs → AreNumbered (next + 1) (rs ++ r ∷ [])
numbered_push next r rs e h = record {
  differ = λ n. few n (r.number == n) refl;
  are_below = λ n high. omega (arith, count_push n, h.are_below n (omega arith), none_at (r.number == n) (below_apart r.number n (omega arith)));
} where
  count_push : (n : ℕ) → count_by (is_numbered n) (rs ++ r ∷ []) ≡ count_by (is_numbered n) rs + cond (r.number == n) 1 0
  count_push n = sum_by_push (λ (x : OpenRequest). cond (is_numbered n x) 1 0) rs r

  few : (n : ℕ) (t : Bool) → (r.number == n) ≡ t → count_by (is_numbered n) (rs ++ r ∷ []) ≤ 1
  few n true is = let same : r.number ≡ n = number_is r.number n is in omega (arith, count_push n, h.are_below n (omega arith), one_at (r.number == n) is)
  few n false is = omega (arith, count_push n, h.differ n, none_at (r.number == n) is)

-- nor is a later number there
pub numbered_later : (next later : ℕ) (rs : List OpenRequest) → next ≤ later → AreNumbered next rs → AreNumbered later rs
numbered_later next later rs low h = record { differ = h.differ; are_below = λ n high. h.are_below n (omega arith) }

-- the number of an open request is below the next one
pub number_below : (next : ℕ) (rs : List OpenRequest) (r : OpenRequest) → AreNumbered next rs → IsIn r rs → r.number < next
number_below next rs r h there = by_order (nat_le next r.number) refl where
  by_order : (t : Bool) → nat_le next r.number ≡ t → r.number < next
  by_order true e =
      let high : next ≤ r.number = grind (arith, nat_tests) in
      absurd (omega (arith, h.are_below r.number high, counts_in (is_numbered r.number) rs r there (same_number r.number r.number refl)))
  by_order false e = grind (arith, nat_tests)
