-- What holds of each element of a list that is made from others.
use Rattle.std.proofs.Common.{◌≡◌, List, [], ◌∷◌, ◌++◌, map, filter, find, flat_map, cond, Bool, true, false, refl, Contains, Some, IfSome, arith}
use Rattle.std.specs.List.{AllByRecursion}
use Rattle.std.proofs.lemmas.List.Elements.{All-from_recursion, recursion_from_All, All-contains, All-contains_itself, Contains-append_right, Contains-append_left}

module _ {X : Type 0} (P : X → Type 0) where
  -- what holds of each element of two lists holds of each of both
  pub all_append : (xs ys : List X) → AllByRecursion P xs → AllByRecursion P ys → AllByRecursion P (xs ++ ys)
  all_append [] ys a b = b
  all_append (x ∷ xs) ys a b = (a.0, all_append xs ys a.1 b)

  -- it holds of each that passes a test
  pub all_filter : (test : X → Bool) (xs : List X) → AllByRecursion P xs → AllByRecursion P (filter test xs)
  all_filter test [] a = tt
  all_filter test (x ∷ xs) a = by_test (test x) (all_filter test xs a.1) where
    by_test : (t : Bool) → AllByRecursion P (filter test xs) → AllByRecursion P (cond t (x ∷ filter test xs) (filter test xs))
    by_test true rest = (a.0, rest)
    by_test false rest = rest

  -- of each that passes a test holds what follows from that
  pub all_passing : (Q : X → Type 0) (test : X → Bool) → ((x : X) → test x ≡ true → P x → Q x) → (xs : List X) → AllByRecursion P xs → AllByRecursion Q (filter test xs)
  all_passing Q test f [] a = tt
  all_passing Q test f (x ∷ xs) a = by_test (test x) refl (all_passing Q test f xs a.1) where
    by_test : (t : Bool) → test x ≡ t → AllByRecursion Q (filter test xs) → AllByRecursion Q (cond t (x ∷ filter test xs) (filter test xs))
    by_test true passes rest = (f x passes a.0, rest)
    by_test false passes rest = rest

  -- it holds of the first that passes a test
  pub all_find : (test : X → Bool) (xs : List X) → AllByRecursion P xs → IfSome (find test xs) P
  all_find test [] a = tt
  all_find test (x ∷ xs) a = by_test (test x) (all_find test xs a.1) where
    by_test : (t : Bool) → IfSome (find test xs) P → IfSome (cond t (Some x) (find test xs)) P
    by_test true rest = a.0
    by_test false rest = rest

  -- it holds of each element that the list contains
  pub all_contains : (xs : List X) (x : X) → AllByRecursion P xs → Contains xs x → P x
  all_contains xs x a there = All-contains P xs x (All-from_recursion P xs a) there

module _ {X Y : Type 0} where
  -- what holds of each list that a function makes holds of all of them together
  pub all_flat_map : (P : Y → Type 0) (f : X → List Y) (xs : List X) → AllByRecursion (λ x. AllByRecursion P (f x)) xs → AllByRecursion P (flat_map f xs)
  all_flat_map P f [] a = tt
  all_flat_map P f (x ∷ xs) a = all_append P (f x) (flat_map f xs) a.0 (all_flat_map P f xs a.1)

  -- what holds of each image holds of the images
  pub all_map : (P : Y → Type 0) (f : X → Y) (xs : List X) → AllByRecursion (λ x. P (f x)) xs → AllByRecursion P (map f xs)
  all_map P f [] a = tt
  all_map P f (x ∷ xs) a = (a.0, all_map P f xs a.1)

module _ {X : Type 0} where
  -- what follows for each element follows for all
  pub all_weaker : (P Q : X → Type 0) → ((x : X) → P x → Q x) → (xs : List X) → AllByRecursion P xs → AllByRecursion Q xs
  all_weaker P Q f [] a = tt
  all_weaker P Q f (x ∷ xs) a = (f x a.0, all_weaker P Q f xs a.1)

  -- what holds of every value holds of each element
  pub all_every : (P : X → Type 0) → ((x : X) → P x) → (xs : List X) → AllByRecursion P xs
  all_every P f [] = tt
  all_every P f (x ∷ xs) = (f x, all_every P f xs)

  -- a list contains each of its elements
  pub all_there : (xs : List X) → AllByRecursion (Contains xs) xs
  all_there xs = recursion_from_All (Contains xs) xs (All-contains_itself xs)

  -- a list contains its head
  pub head_there : (x : X) (xs : List X) → Contains (x ∷ xs) x
  head_there x xs = Contains-append_left (x ∷ []) xs x (0, omega arith, refl)

  -- a list contains what its tail contains
  pub tail_there : (x y : X) (xs : List X) → Contains xs y → Contains (x ∷ xs) y
  tail_there x y xs h = Contains-append_right (x ∷ []) xs y h
