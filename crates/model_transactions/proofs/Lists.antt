-- What holds of each element of a list that is made from others.
use Rattle.std.proofs.Common.{◌≡◌, ◌+◌, List, [], ◌∷◌, ◌++◌, map, flat_map, find, cond, Bool, true, false, refl, Contains, Option, Some, None, IfSome, arith}
use Rattle.std.specs.Prelude.{count_by}
use Rattle.std.specs.List.{AllByRecursion, filter_map, cons_option}
use Rattle.std.proofs.lemmas.List.Elements.{All-from_recursion, All-contains}
use Rattle.std.proofs.lemmas.List.Sums.{sum_by-cons}

module _ {X : Type 0} (P : X → Type 0) where
  -- what holds of each element of two lists holds of each of both
  pub all_append : (xs ys : List X) → AllByRecursion P xs → AllByRecursion P ys → AllByRecursion P (xs ++ ys)
  all_append [] ys a b = b
  all_append (x ∷ xs) ys a b = (a.0, all_append xs ys a.1 b)

  -- it holds of the first that passes a test
  pub all_find : (test : X → Bool) (xs : List X) → AllByRecursion P xs → IfSome (find test xs) P
  all_find test [] a = tt
  all_find test (x ∷ xs) a = by_test (test x) (all_find test xs a.1) where
    by_test : (t : Bool) → IfSome (find test xs) P → IfSome (cond t (Some x) (find test xs)) P
    by_test true rest = a.0
    by_test false rest = rest

  -- it holds of each element that the list contains
  pub all_contains : (xs : List X) (x : X) → AllByRecursion P xs → Contains xs x → P x
  all_contains xs x a there = All-contains P xs x (All-from_recursion P xs a) there

  -- where what holds excludes a test, none passes it
  pub none_passes : (test : X → Bool) → ((x : X) → P x → test x ≡ false) → (xs : List X) → AllByRecursion P xs → count_by test xs ≡ 0
  none_passes test f [] a = refl
  none_passes test f (x ∷ xs) a = by_test (test x) (f x a.0) (sum_by-cons (λ y. cond (test y) 1 0) x xs) (none_passes test f xs a.1) where
    by_test : (t : Bool) → t ≡ false → count_by test (x ∷ xs) ≡ cond t 1 0 + count_by test xs → count_by test xs ≡ 0 → count_by test (x ∷ xs) ≡ 0
    by_test false is e rest = omega (arith, e, rest)
    by_test true is e rest = absurd (cc)

module _ {X Y : Type 0} where
  -- what holds of each list that a function makes holds of all of them together
  pub all_flat_map : (P : Y → Type 0) (f : X → List Y) (xs : List X) → AllByRecursion (λ x. AllByRecursion P (f x)) xs → AllByRecursion P (flat_map f xs)
  all_flat_map P f [] a = tt
  all_flat_map P f (x ∷ xs) a = all_append P (f x) (flat_map f xs) a.0 (all_flat_map P f xs a.1)

  -- what holds of each image holds of the images
  pub all_map : (P : Y → Type 0) (f : X → Y) (xs : List X) → AllByRecursion (λ x. P (f x)) xs → AllByRecursion P (map f xs)
  all_map P f [] a = tt
  all_map P f (x ∷ xs) a = (a.0, all_map P f xs a.1)

  -- what holds of each value that a function gives, where it gives one, holds of the values
  pub all_given : (P : Y → Type 0) (f : X → Option Y) (xs : List X) → AllByRecursion (λ x. IfSome (f x) P) xs → AllByRecursion P (filter_map f xs)
  all_given P f [] a = tt
  all_given P f (x ∷ xs) a = by_value (f x) a.0 (all_given P f xs a.1) where
    by_value : (o : Option Y) → IfSome o P → AllByRecursion P (filter_map f xs) → AllByRecursion P (cons_option o (filter_map f xs))
    by_value None is rest = rest
    by_value (Some y) is rest = (is, rest)

module _ {X : Type 0} where
  -- what follows for each element follows for all
  pub all_weaker : (P Q : X → Type 0) → ((x : X) → P x → Q x) → (xs : List X) → AllByRecursion P xs → AllByRecursion Q xs
  all_weaker P Q f [] a = tt
  all_weaker P Q f (x ∷ xs) a = (f x a.0, all_weaker P Q f xs a.1)
