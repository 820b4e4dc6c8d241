-- What holds of each element of a list that is made from others, and of each open request when one of them changes.
use Rattle.std.proofs.Common.{Bool, true, false, cond, ◌==◌, List, [], ◌∷◌, ◌++◌, map, filter_map, flat_map, option_to_list, Contains, Option, Some, None, IfSome}
use Rattle.std.specs.List.{AllByRecursion, cons_option}
use Rattle.std.proofs.lemmas.List.Elements.{recursion_from_All, All-contains_itself}
use Rattle.model_steps.specs.state.declared.open_request.OpenRequest.{OpenRequest}
use Rattle.model_steps.specs.state.State.{has_left}
use Rattle.model_steps.specs.Effect.{replaced}

module _ {X : Type 0} (P : X → Type 0) where
  -- what holds of each element of two lists together holds of each of either
  pub parts_of_append : (xs ys : List X) → AllByRecursion P (xs ++ ys) → AllByRecursion P xs × AllByRecursion P ys
  parts_of_append [] ys all = (tt, all)
  parts_of_append (x ∷ xs) ys all = let rest = parts_of_append xs ys all.1 in ((all.0, rest.0), rest.1)

  -- of a list of one, or of none
  pub all_option : (o : Option X) → IfSome o P → AllByRecursion P (option_to_list o)
  all_option None h = tt
  all_option (Some x) h = (h, tt)

  -- and back
  pub option_of_all : (o : Option X) → AllByRecursion P (option_to_list o) → IfSome o P
  option_of_all None all = tt
  option_of_all (Some x) all = all.0

  -- of each element of a list, if it holds of whatever is in it
  pub all_from_in : (xs : List X) → ((x : X) → Contains xs x → P x) → AllByRecursion P xs
  all_from_in xs each = each_of (λ x there. each x there) xs (recursion_from_All (Contains xs) xs (All-contains_itself xs)) where
    each_of : {Q : X → Type 0} → ((x : X) → Q x → P x) → (ys : List X) → AllByRecursion Q ys → AllByRecursion P ys
    each_of f [] all = tt
    each_of f (y ∷ ys) all = (f y all.0, each_of f ys all.1)

module _ {X : Type 0} (P Q : X → Type 0) where
  -- both hold of each
  pub all_both : (xs : List X) → AllByRecursion P xs → AllByRecursion Q xs → AllByRecursion (λ x. P x × Q x) xs
  all_both [] first second = tt
  all_both (x ∷ xs) first second = ((first.0, second.0), all_both xs first.1 second.1)

  -- what is kept for each is kept in the images
  pub all_map : (f : X → X) → ((x : X) → P x → Q (f x)) → (xs : List X) → AllByRecursion P xs → AllByRecursion Q (map f xs)
  all_map f each [] all = tt
  all_map f each (x ∷ xs) all = (each x all.0, all_map f each xs all.1)

module _ {X Y : Type 0} (P : Y → Type 0) where
  -- what holds of all that a function gives for each
  pub each_of_flat_map : (f : X → List Y) (xs : List X) → AllByRecursion P (flat_map f xs) → AllByRecursion (λ x. AllByRecursion P (f x)) xs
  each_of_flat_map f [] all = tt
  each_of_flat_map f (x ∷ xs) all = let parts = parts_of_append P (f x) (flat_map f xs) all in (parts.0, each_of_flat_map f xs parts.1)

  -- of what one gives for some
  pub each_of_filter_map : (f : X → Option Y) (xs : List X) → AllByRecursion P (filter_map f xs) → AllByRecursion (λ x. IfSome (f x) P) xs
  each_of_filter_map f [] all = tt
  each_of_filter_map f (x ∷ xs) all = by_first (f x) (λ rest. each_of_filter_map f xs rest) all where
    by_first : (o : Option Y) → (AllByRecursion P (filter_map f xs) → AllByRecursion (λ y. IfSome (f y) P) xs) → AllByRecursion P (cons_option o (filter_map f xs))
        → IfSome o P × AllByRecursion (λ y. IfSome (f y) P) xs
    by_first None rest there = (tt, rest there)
    by_first (Some y) rest there = (there.0, rest there.1)

  -- and back
  pub all_filter_map : (f : X → Option Y) (xs : List X) → AllByRecursion (λ x. IfSome (f x) P) xs → AllByRecursion P (filter_map f xs)
  all_filter_map f [] all = tt
  all_filter_map f (x ∷ xs) all = by_first (f x) all.0 (all_filter_map f xs all.1) where
    by_first : (o : Option Y) → IfSome o P → AllByRecursion P (filter_map f xs) → AllByRecursion P (cons_option o (filter_map f xs))
    by_first None h rest = rest
    by_first (Some y) h rest = (h, rest)

-- what holds of each open request holds of each, with one in place of the one of its number
pub all_replaced : (P : OpenRequest → Type 0) (new : OpenRequest) → P new → (rs : List OpenRequest) → AllByRecursion P rs → AllByRecursion P (replaced new rs)
all_replaced P new h [] all = tt
all_replaced P new h (x ∷ xs) all = by_test (x.number == new.number) (has_left new) (all_replaced P new h xs all.1) where
  by_test : (same left : Bool) → AllByRecursion P (replaced new xs) → AllByRecursion P (cond same (cond left xs (new ∷ xs)) (x ∷ replaced new xs))
  by_test true true rest = all.1
  by_test true false rest = (h, all.1)
  by_test false left rest = (all.0, rest)
