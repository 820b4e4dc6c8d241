-- Lists whose elements are seen through a function.
use Rattle.std.proofs.Common.{◌≡◌, ℕ, ◌+◌, ◌<◌, Bool, true, false, cond, List, [], ◌∷◌, map, length, get_or, position, slice_get, Option, Some, None, refl, sym, ◌∙◌, ap}
use Rattle.std.proofs.Common.{subst, arith}
use Rattle.std.specs.Prelude.{find, nat_lt, not}
use Rattle.std.specs.List.{position_or_len, All, AllPairs}
use Rattle.std.specs.Option.{option_map, option_and_then}
use Rattle.std.proofs.lemmas.List.{length-map, get_or-map}
use Rattle.std.proofs.lemmas.Option.{slice_get-map}

module _ {X Y : Type 0} (f : X → Y) (test : Y → Bool) where
  first_mapped : (xs : List X) → position_or_len test (map f xs) ≡ position_or_len (λ x. test (f x)) xs
  first_mapped [] = refl
  first_mapped (x ∷ xs) = by_test (not (test (f x))) (first_mapped xs) where
    by_test : (b : Bool) → position_or_len test (map f xs) ≡ position_or_len (λ y. test (f y)) xs
        → cond b (1 + position_or_len test (map f xs)) 0 ≡ cond b (1 + position_or_len (λ y. test (f y)) xs) 0
    by_test true e = ap (λ n. 1 + n) e
    by_test false e = refl

  -- the place is the same
  pub position-map : (xs : List X) → position test (map f xs) ≡ position (λ x. test (f x)) xs
  position-map xs = ap (λ n. cond (nat_lt n (length (map f xs))) (Some n) None) (first_mapped xs)
      ∙ ap (λ l. cond (nat_lt (position_or_len (λ x. test (f x)) xs) l) (Some (position_or_len (λ x. test (f x)) xs)) None) (length-map xs f)

  -- what is found is what is seen of what is found there
  pub find-map : (xs : List X) → find test (map f xs) ≡ option_map f (find (λ x. test (f x)) xs)
  find-map [] = refl
  find-map (x ∷ xs) = by_test (test (f x)) (find-map xs) where
    by_test : (b : Bool) → find test (map f xs) ≡ option_map f (find (λ y. test (f y)) xs)
        → cond b (Some (f x)) (find test (map f xs)) ≡ option_map f (cond b (Some x) (find (λ y. test (f y)) xs))
    by_test true e = refl
    by_test false e = e

  -- what stands at a place that was found is what is found
  pub found-map : (xs : List X) (place : Option ℕ) → option_and_then (slice_get xs) place ≡ find (λ x. test (f x)) xs
      → option_and_then (slice_get (map f xs)) place ≡ find test (map f xs)
  found-map xs place e = by_place place ∙ ap (option_map f) e ∙ sym (find-map xs) where
    by_place : (o : Option ℕ) → option_and_then (slice_get (map f xs)) o ≡ option_map f (option_and_then (slice_get xs) o)
    by_place None = refl
    by_place (Some i) = slice_get-map f xs i

-- what holds of pairs holds of what is seen of them
pub pairs-map : {X Y : Type 0} (f : X → Y) (R : Y → Y → Type 0) (xs : List X) → AllPairs (λ a b. R (f a) (f b)) xs → AllPairs R (map f xs)
pairs-map f R [] pairs i j d lt inside = absurd (omega (arith, inside))
pairs-map f R (x ∷ xs) pairs i j d lt inside =
    let long : length (map f (x ∷ xs)) ≡ length (x ∷ xs) = length-map (x ∷ xs) f in
    let late : j < length (x ∷ xs) = omega (arith, inside, long) in
    let early : i < length (x ∷ xs) = omega (arith, lt, late) in
    subst (λ a. R a (get_or (map f (x ∷ xs)) j d)) (sym (get_or-map f (x ∷ xs) i x d early))
    (subst (λ b. R (f (get_or (x ∷ xs) i x)) b) (sym (get_or-map f (x ∷ xs) j x d late)) (pairs i j x lt late))

-- what holds of all that is seen of elements holds of what is seen of each
pub all-map : {X Y : Type 0} (f : X → Y) (P : Y → Type 0) (xs : List X) → All P (map f xs) → All (λ x. P (f x)) xs
all-map f P xs all i d inside = subst P (get_or-map f xs i d (f d) inside) (all i (f d) (omega (arith, inside, length-map xs f)))
