-- The texts of a set.
use Rattle.std.proofs.Common.{◌≡◌, ℕ, Bool, ◌||◌, List, [], ◌∷◌, Vec, refl, ap}
use Rattle.std.specs.List.{list_any}
use Rattle.std.specs.Ordering.{match_ordering, nat_cmp}
use Rattle.std.specs.declared.cmp.Ordering.{Ordering}
use Rattle.std.specs.declared.cmp.Ordering.TheVariants.{Less, Equal, Greater}
use Rattle.std.specs.Cmp.Lexicographic.{slice_cmp}
use Rattle.std.specs.BTreeMap.{is_at}
use Rattle.std.specs.BTreeSet.{insert_key}
use Rattle.sipd_sources.specs.Told.{names_in, with_text}

module _ {A : Type 0} where
  -- keys are compared by their bytes
  abbrev pub compare : Vec ℕ A → Vec ℕ A → Ordering
  compare x y = slice_cmp nat_cmp x.items y.items

  put_by : (x k : Vec ℕ A) (xs : List (Vec ℕ A)) (o : Ordering) → names_in (insert_key compare xs k) ≡ with_text k.items (names_in xs)
      → names_in (match_ordering o (k ∷ x ∷ xs) (x ∷ xs) (x ∷ insert_key compare xs k))
      ≡ match_ordering o (k.items ∷ x.items ∷ names_in xs) (x.items ∷ names_in xs) (x.items ∷ with_text k.items (names_in xs))
  put_by x k xs Less rest = refl
  put_by x k xs Equal rest = refl
  put_by x k xs Greater rest = ap (λ (l : List (List ℕ)). x.items ∷ l) rest

  pub key_put : (keys : List (Vec ℕ A)) (k : Vec ℕ A) → names_in (insert_key compare keys k) ≡ with_text k.items (names_in keys)
  key_put [] k = refl
  key_put (x ∷ xs) k = put_by x k xs (compare k x) (key_put xs k)

  pub key_there : (keys : List (Vec ℕ A)) (k : Vec ℕ A) → list_any (is_at (compare k)) keys ≡ list_any (is_at (slice_cmp nat_cmp k.items)) (names_in keys)
  key_there [] k = refl
  key_there (x ∷ xs) k = ap (λ (b : Bool). (is_at (compare k) x) || b) (key_there xs k)
