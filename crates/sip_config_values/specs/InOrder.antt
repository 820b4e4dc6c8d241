-- Keys that lead to places, in the order of these.
use Rattle.std.specs.Prelude.{ℕ, zero, suc, ◌+◌, ◌==◌, if◌then◌else◌, List, [], ◌∷◌, ◌++◌, length, map}
use Rattle.std.specs.Prelude.{Option, Some, None, option_to_list, Vec, IsPermutation}
use Rattle.std.specs.HashMap.{HashMap}

-- the key that leads to a place
abbrev pub key_at : {K : Type 0} → ℕ → List (K × ℕ) → Option K
key_at at [] = None
key_at at (entry ∷ entries) = if at == entry.1 then Some entry.0 else key_at at entries

-- the keys that lead to the places below a number
abbrev pub keys_below : {K : Type 0} → ℕ → List (K × ℕ) → List K
keys_below zero entries = []
keys_below (suc place) entries = keys_below place entries ++ option_to_list (key_at place entries)

-- the keys in the order of their places
unfoldable pub in_order : {K : Type 0} → List (K × ℕ) → List K
in_order entries = keys_below (length entries) entries

-- keys with their places, where the first has this one
abbrev pub placed_from : {K : Type 0} → ℕ → List K → List (K × ℕ)
placed_from at [] = []
placed_from at (key ∷ keys) = (key, at) ∷ placed_from (at + 1) keys

-- each key leads to its place among them
pub record ArePlaced {K : Type 0} (entries : List (K × ℕ)) : Type 0 where
  pub each : IsPermutation (placed_from 0 (in_order entries)) entries

-- the texts of names, in the order of their places
abbrev pub texts_in_order : {A S : Type 0} → HashMap (Vec ℕ A) ℕ S → List (List ℕ)
texts_in_order names = map (λ name. name.items) (in_order names.entries)

-- hosts with ports, in the order of their places
abbrev pub places_in_order : {A S : Type 0} → HashMap (Vec ℕ A × ℕ) ℕ S → List (List ℕ × ℕ)
places_in_order places = map (λ place. (place.0.items, place.1)) (in_order places.entries)
