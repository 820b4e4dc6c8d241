-- What holds of each element of a list, and of its parts; more stands in `Lists` and `Places` of `sip_model`.
use Rattle.std.proofs.Common.{inl, inr, List, [], ◌∷◌, ◌++◌, refl}
use Rattle.std.specs.List.{AllByRecursion}
use Rattle.sip_model.proofs.Places.{IsIn}

module _ {X : Type 0} (P : X → Type 0) where
  -- what holds of each that is there holds of all
  pub all_from_in : (xs : List X) → ((x : X) → IsIn x xs → P x) → AllByRecursion P xs
  all_from_in [] h = tt
  all_from_in (x ∷ xs) h = (h x (inl refl), all_from_in xs (λ y there. h y (inr there)))

  -- what holds of two lists together holds of the first
  pub all_left : (xs ys : List X) → AllByRecursion P (xs ++ ys) → AllByRecursion P xs
  all_left [] ys h = tt
  all_left (x ∷ xs) ys h = (h.0, all_left xs ys h.1)

  -- and of the second
  pub all_right : (xs ys : List X) → AllByRecursion P (xs ++ ys) → AllByRecursion P ys
  all_right [] ys h = h
  all_right (x ∷ xs) ys h = all_right xs ys h.1
