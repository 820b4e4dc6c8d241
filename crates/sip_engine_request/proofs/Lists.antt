-- Elements of lists, by their places.
use Rattle.std.proofs.Common.{◌≡◌, ℕ, zero, suc, ◌<◌, ◌≤◌, Bool, true, false, cond, List, [], ◌∷◌, length, get_or, slice_get, position, Contains, Option, Some, None}
use Rattle.std.proofs.Common.{refl, sym, ◌∙◌, ap, subst, arith, flat_map}
use Rattle.std.specs.Prelude.{find, nat_lt}
use Rattle.std.specs.List.{AllByRecursion, cons_option, filter_map, position_or_len}
use Rattle.std.specs.Option.{option_and_then, option_to_list}
use Rattle.std.proofs.lemmas.Bool.Decides.{nat_tests}
use Rattle.std.proofs.lemmas.List.Elements.{All-contains, All-from_recursion, Contains-append_left, Contains-append_right}
use Rattle.std.proofs.lemmas.List.Folds.{find_at}
use Rattle.std.proofs.lemmas.Option.{get_or_from_slice_get, slice_get-get_or, slice_get_past, slice_get_within}

module _ {X : Type 0} where
  -- the element at a place within
  pub at_place : (xs : List X) (i : ℕ) → i < length xs → (x : X) × (slice_get xs i ≡ Some x)
  at_place [] i lt = absurd (omega (arith, lt))
  at_place (x ∷ xs) i lt = (get_or (x ∷ xs) i x, slice_get-get_or (x ∷ xs) i x lt)

  -- what stands at a place is one of them
  pub contained : (xs : List X) (i : ℕ) (x : X) → slice_get xs i ≡ Some x → Contains xs x
  contained xs i x at = (i, slice_get_within xs i x at, get_or_from_slice_get xs i x x at)

  -- what follows for each element follows for all
  pub all_weaker : (P Q : X → Type 0) → ((x : X) → P x → Q x) → (xs : List X) → AllByRecursion P xs → AllByRecursion Q xs
  all_weaker P Q f [] a = tt
  all_weaker P Q f (x ∷ xs) a = (f x a.0, all_weaker P Q f xs a.1)

  -- what holds of all holds of each
  pub all_contains : (P : X → Type 0) (xs : List X) (x : X) → AllByRecursion P xs → Contains xs x → P x
  all_contains P xs x a there = All-contains P xs x (All-from_recursion P xs a) there

  -- what stands at the place that is found is what is found
  pub found_at : (test : X → Bool) (xs : List X) → option_and_then (slice_get xs) (position test xs) ≡ find test xs
  found_at test xs = by_test (nat_lt (position_or_len test xs) (length xs)) refl ∙ sym (find_at test xs) where
    by_test : (b : Bool) → nat_lt (position_or_len test xs) (length xs) ≡ b → option_and_then (slice_get xs) (cond b (Some (position_or_len test xs)) None)
        ≡ slice_get xs (position_or_len test xs)
    by_test true is = refl
    by_test false is = let past : length xs ≤ position_or_len test xs = grind (arith, nat_tests, is) in sym (slice_get_past xs (position_or_len test xs) past)

  -- a place that is found is within
  pub found_within : (test : X → Bool) (xs : List X) (i : ℕ) → position test xs ≡ Some i → i < length xs
  found_within test xs i found = by_test (nat_lt (position_or_len test xs) (length xs)) refl found where
    by_test : (b : Bool) → nat_lt (position_or_len test xs) (length xs) ≡ b → cond b (Some (position_or_len test xs)) None ≡ Some i → i < length xs
    by_test true is e =
        let same : position_or_len test xs ≡ i = cc in
        let within : position_or_len test xs < length xs = grind (arith, nat_tests, is) in
        omega (arith, same, within)
    by_test false is e = absurd (cc)

module _ {X Y : Type 0} where
  -- what one of the lists has that a function makes, all of them together have
  pub in_flat_map : (f : X → List Y) (xs : List X) (i : ℕ) (x : X) (y : Y) → slice_get xs i ≡ Some x → Contains (f x) y → Contains (flat_map f xs) y
  in_flat_map f [] i x y at there = absurd (cc)
  in_flat_map f (z ∷ zs) zero x y at there =
      let same : x ≡ z = cc in
      Contains-append_left (f z) (flat_map f zs) y (subst (λ (v : X). Contains (f v) y) same there)
  in_flat_map f (z ∷ zs) (suc k) x y at there = Contains-append_right (f z) (flat_map f zs) y (in_flat_map f zs k x y at there)

  -- what a function gives of one element, where it gives it, is one of the values
  pub in_filter_map : (f : X → Option Y) (xs : List X) (i : ℕ) (x : X) (y : Y) → slice_get xs i ≡ Some x → f x ≡ Some y → Contains (filter_map f xs) y
  in_filter_map f [] i x y at is = absurd (cc)
  in_filter_map f (z ∷ zs) zero x y at is =
      let same : x ≡ z = cc in
      let gives : f z ≡ Some y = ap f (sym same) ∙ is in
      subst (λ (o : Option Y). Contains (cons_option o (filter_map f zs)) y) (sym gives) (Contains-append_left (y ∷ []) (filter_map f zs) y (0, omega arith, refl))
  in_filter_map f (z ∷ zs) (suc k) x y at is = by_value (f z) (in_filter_map f zs k x y at is) where
    by_value : (o : Option Y) → Contains (filter_map f zs) y → Contains (cons_option o (filter_map f zs)) y
    by_value None there = there
    by_value (Some v) there = Contains-append_right (v ∷ []) (filter_map f zs) y there

-- what may be there is the list's only element, if it is
pub in_option : (o : Option ℕ) (y : ℕ) → o ≡ Some y → Contains (option_to_list o) y
in_option o y is = subst (λ (v : Option ℕ). Contains (option_to_list v) y) (sym is) (0, omega arith, refl)
