-- Places in lists.
use Rattle.std.proofs.Common.{◌≡◌, ℕ, ◌≤◌, ◌<◌, Bool, true, false, cond, List, [], ◌∷◌, length, get_or, set, slice_get, position, Some, None, refl, sym, ◌∙◌, ap, subst}
use Rattle.std.proofs.Common.{arith, ◌⊎◌, inl, inr}
use Rattle.std.specs.Prelude.{find, nat_lt}
use Rattle.std.specs.List.{All, AllPairs, position_or_len}
use Rattle.std.specs.Option.{option_and_then}
use Rattle.std.proofs.lemmas.Bool.{cases_eq}
use Rattle.std.proofs.lemmas.Bool.Decides.{nat_tests}
use Rattle.std.proofs.lemmas.List.{get_or-set_same, get_or-set_other, length-set}
use Rattle.std.proofs.lemmas.List.Folds.{find_at}
use Rattle.std.proofs.lemmas.List.Sums.{position_or_len_is, fails_before_first}
use Rattle.std.proofs.lemmas.Option.{slice_get_within, slice_get_past, slice_get-get_or, get_or_from_slice_get}

-- the element at a place within
pub at_place : {X : Type 0} (xs : List X) (i : ℕ) → i < length xs → (x : X) × (slice_get xs i ≡ Some x)
at_place [] i lt = absurd (omega (arith, lt))
at_place (x ∷ xs) i lt = (get_or (x ∷ xs) i x, slice_get-get_or (x ∷ xs) i x lt)

module _ {X : Type 0} (test : X → Bool) where
  -- the first element that passes
  pub first_at : (xs : List X) (i : ℕ) (x : X) → slice_get xs i ≡ Some x → test x ≡ true → ((k : ℕ) → k < i → test (get_or xs k x) ≡ false) → position test xs ≡ Some i
  first_at xs i x at passes before =
      let within = slice_get_within xs i x at in
      let here : test (get_or xs i x) ≡ true = ap test (get_or_from_slice_get xs i x x at) ∙ passes in
      let is = position_or_len_is test xs i x (omega (arith, within)) before (λ _. here) in
      let inside : nat_lt i (length xs) ≡ true = grind (arith, nat_tests, within) in
      ap (λ n. cond (nat_lt n (length xs)) (Some n) None) is ∙ ap (λ (b : Bool). cond b (Some i) None) inside

  -- no element passes
  pub nowhere : (xs : List X) → All (λ x. test x ≡ false) xs → position test xs ≡ None
  nowhere [] fails = refl
  nowhere (x ∷ xs) fails =
      let is = position_or_len_is test (x ∷ xs) (length (x ∷ xs)) x (omega arith) (λ k lt. fails k x lt) (λ lt. absurd (omega (arith, lt))) in
      let outside : nat_lt (length (x ∷ xs)) (length (x ∷ xs)) ≡ false = grind (arith, nat_tests) in
      ap (λ n. cond (nat_lt n (length (x ∷ xs))) (Some n) None) is ∙ ap (λ (b : Bool). cond b (Some (length (x ∷ xs))) None) outside

  -- where none is found, none passes
  pub none_passes : (xs : List X) → position test xs ≡ None → All (λ x. test x ≡ false) xs
  none_passes xs none k d lt = by_test (nat_lt (position_or_len test xs) (length xs)) refl none where
    by_test : (b : Bool) → nat_lt (position_or_len test xs) (length xs) ≡ b → cond b (Some (position_or_len test xs)) None ≡ None → test (get_or xs k d) ≡ false
    by_test true is e = absurd (cc)
    by_test false is e = let past : length xs ≤ position_or_len test xs = grind (arith, nat_tests, is) in fails_before_first test xs k d (omega (arith, past, lt))

  -- the element that is found
  pub found : (xs : List X) → option_and_then (slice_get xs) (position test xs) ≡ find test xs
  found xs = by_test (nat_lt (position_or_len test xs) (length xs)) refl ∙ sym (find_at test xs) where
    by_test : (b : Bool) → nat_lt (position_or_len test xs) (length xs) ≡ b → option_and_then (slice_get xs) (cond b (Some (position_or_len test xs)) None)
        ≡ slice_get xs (position_or_len test xs)
    by_test true is = refl
    by_test false is = let past : length xs ≤ position_or_len test xs = grind (arith, nat_tests, is) in sym (slice_get_past xs (position_or_len test xs) past)

-- pairs after one element is replaced by one that stands to others as it did
pub all_pairs_set : {X : Type 0} (R : X → X → Type 0) (xs : List X) (i : ℕ) (x y : X) → slice_get xs i ≡ Some x → ((a : X) → R a x → R a y) → ((b : X) → R x b → R y b)
    → AllPairs R xs → AllPairs R (set xs i y)
all_pairs_set {X} R xs i x y at left right pairs j k d lt inside = by_place (cases_eq j i) (cases_eq k i) where
  within : i < length xs
  within = slice_get_within xs i x at

  long : k < length xs
  long = omega (arith, inside, length-set xs i y)

  was : get_or xs i d ≡ x
  was = get_or_from_slice_get xs i x d at

  by_place : (j ≡ i) ⊎ (j ≡ i → ⊥) → (k ≡ i) ⊎ (k ≡ i → ⊥) → R (get_or (set xs i y) j d) (get_or (set xs i y) k d)
  by_place (inl p) (inl q) = absurd (omega (arith, p, q, lt))
  by_place (inl p) (inr q) =
      let first : get_or (set xs i y) j d ≡ y = ap (λ n. get_or (set xs i y) n d) p ∙ get_or-set_same xs i y d within in
      let second : get_or (set xs i y) k d ≡ get_or xs k d = get_or-set_other xs i k y d q in
      let held : R x (get_or xs k d) = subst (λ v. R v (get_or xs k d)) (ap (λ n. get_or xs n d) p ∙ was) (pairs j k d lt long) in
      subst (λ v. R v (get_or (set xs i y) k d)) (sym first) (subst (λ v. R y v) (sym second) (right (get_or xs k d) held))
  by_place (inr p) (inl q) =
      let first : get_or (set xs i y) j d ≡ get_or xs j d = get_or-set_other xs i j y d p in
      let second : get_or (set xs i y) k d ≡ y = ap (λ n. get_or (set xs i y) n d) q ∙ get_or-set_same xs i y d within in
      let held : R (get_or xs j d) x = subst (λ v. R (get_or xs j d) v) (ap (λ n. get_or xs n d) q ∙ was) (pairs j k d lt long) in
      subst (λ v. R v (get_or (set xs i y) k d)) (sym first) (subst (λ v. R (get_or xs j d) v) (sym second) (left (get_or xs j d) held))
  by_place (inr p) (inr q) =
      subst (λ v. R v (get_or (set xs i y) k d)) (sym (get_or-set_other xs i j y d p))
      (subst (λ v. R (get_or xs j d) v) (sym (get_or-set_other xs i k y d q)) (pairs j k d lt long))
