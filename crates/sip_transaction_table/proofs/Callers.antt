-- What a caller cites: a definition that walks to the first element that passes a test, where its place is known.
use Rattle.std.proofs.Common.{◌≡◌, ℕ, zero, suc, ◌<◌, Bool, true, false, cond, List, [], ◌∷◌, length, get_or, set, remove, position, Some, ◌∙◌, ap, arith}
use Rattle.std.proofs.lemmas.List.Quantifiers.{position-Some}

module _ {X : Type 0} (test : X → Bool) (F : List X → List X) where
  -- one that takes the element out
  pub removed_at : ((x : X) (xs : List X) → F (x ∷ xs) ≡ cond (test x) xs (x ∷ F xs)) → (xs : List X) (i : ℕ) (d : X) → position test xs ≡ Some i → F xs ≡ remove xs i
  removed_at walks xs i d found = let is = position-Some test xs i d found in walk xs i is.0 is.1 is.2 where
    walk : (xs : List X) (i : ℕ) → i < length xs → test (get_or xs i d) ≡ true → ((k : ℕ) → k < i → test (get_or xs k d) ≡ false) → F xs ≡ remove xs i
    walk [] i lt passes before = absurd (omega (arith, lt))
    walk (x ∷ xs) zero lt passes before = walks x xs ∙ ap (λ (b : Bool). cond b xs (x ∷ F xs)) passes
    walk (x ∷ xs) (suc i) lt passes before =
        walks x xs ∙ ap (λ (b : Bool). cond b xs (x ∷ F xs)) (before 0 (omega arith))
        ∙ ap (λ (rest : List X). x ∷ rest) (walk xs i (omega (arith, lt)) passes (λ k less. before (suc k) (omega (arith, less))))

  -- one that puts another element in its place
  pub replaced_at : (y : X) → ((x : X) (xs : List X) → F (x ∷ xs) ≡ cond (test x) (y ∷ xs) (x ∷ F xs)) → (xs : List X) (i : ℕ) → position test xs ≡ Some i
      → F xs ≡ set xs i y
  replaced_at y walks xs i found = let is = position-Some test xs i y found in walk xs i is.0 is.1 is.2 where
    walk : (xs : List X) (i : ℕ) → i < length xs → test (get_or xs i y) ≡ true → ((k : ℕ) → k < i → test (get_or xs k y) ≡ false) → F xs ≡ set xs i y
    walk [] i lt passes before = absurd (omega (arith, lt))
    walk (x ∷ xs) zero lt passes before = walks x xs ∙ ap (λ (b : Bool). cond b (y ∷ xs) (x ∷ F xs)) passes
    walk (x ∷ xs) (suc i) lt passes before =
        walks x xs ∙ ap (λ (b : Bool). cond b (y ∷ xs) (x ∷ F xs)) (before 0 (omega arith))
        ∙ ap (λ (rest : List X). x ∷ rest) (walk xs i (omega (arith, lt)) passes (λ k less. before (suc k) (omega (arith, less))))
