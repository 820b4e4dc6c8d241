-- What the values of Contact say, one by one.
use Rattle.std.proofs.Common.{◌≡◌, ℕ, ◌+◌, ◌<◌, Bor, List, [], ◌∷◌, ◌++◌, length, take, get_or, map, refl}
use Rattle.std.specs.Prelude.{Option}
use Rattle.std.specs.List.{filter_map}
use Rattle.std.proofs.lemmas.List.{take_more, map-append}
use Rattle.std.proofs.lemmas.List.Elements.{filter_map-append}

pub next : {X : Type 0} (f : List ℕ → Option X) (values : List (Bor (List ℕ))) (i : ℕ) (d : Bor (List ℕ)) → i < length values
    → filter_map f (map (λ v. v.now) (take (i + 1) values)) ≡ filter_map f (map (λ v. v.now) (take i values)) ++ filter_map f ((get_or values i d).now ∷ [])
next f values i d h = rw (
  take_more values i d h,
  map-append (λ v. v.now) (take i values) (get_or values i d ∷ []),
  filter_map-append f (map (λ v. v.now) (take i values)) ((get_or values i d).now ∷ []),
) refl
