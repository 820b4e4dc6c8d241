-- Lists of what passes a test.
use Rattle.std.proofs.Common.{◌≡◌, List, [], ◌∷◌, cond, Bool, true, false, refl, ap}
use Rattle.std.specs.Prelude.{filter}
use Rattle.std.specs.List.{AllByRecursion}

-- what holds of each element of a list holds of each of those that pass a test
pub all_filtered : {X : Type 0} (P : X → Type 0) (q : X → Bool) (xs : List X) → AllByRecursion P xs → AllByRecursion P (filter q xs)
all_filtered P q [] h = tt
all_filtered P q (x ∷ xs) h =
    elim (q x) as (λ b. AllByRecursion P (cond b (x ∷ filter q xs) (filter q xs))) [
      | true ↦ (h.0, all_filtered P q xs h.1)
      | false ↦ all_filtered P q xs h.1
    ]

pub all_weaker : {X : Type 0} (P Q : X → Type 0) (xs : List X) → ((x : X) → P x → Q x) → AllByRecursion P xs → AllByRecursion Q xs
all_weaker P Q [] weaker h = tt
all_weaker P Q (x ∷ xs) weaker h = (weaker x h.0, all_weaker P Q xs weaker h.1)

-- what passes a test passes it
pub each_passes : {X : Type 0} (p : X → Bool) (xs : List X) → AllByRecursion (λ x. p x ≡ true) (filter p xs)
each_passes p [] = tt
each_passes p (x ∷ xs) =
    elim (p x) as (λ b. p x ≡ b → AllByRecursion (λ y. p y ≡ true) (cond b (x ∷ filter p xs) (filter p xs))) [
      | true ↦ (λ e. (e, each_passes p xs))
      | false ↦ (λ e. each_passes p xs)
    ] refl

-- where each passes, all stay
pub filter-all : {X : Type 0} (p : X → Bool) (xs : List X) → AllByRecursion (λ x. p x ≡ true) xs → filter p xs ≡ xs
filter-all p [] h = refl
filter-all p (x ∷ xs) h = rw h.0 (ap (λ ys. x ∷ ys) (filter-all p xs h.1))

-- where none passes, none stays
pub filter-none : {X : Type 0} (p : X → Bool) (xs : List X) → AllByRecursion (λ x. p x ≡ false) xs → filter p xs ≡ []
filter-none p [] h = refl
filter-none p (x ∷ xs) h = rw h.0 (filter-none p xs h.1)

-- a test that all that pass a second one pass, too
pub filter-wider : {X : Type 0} (p q : X → Bool) (xs : List X) → ((x : X) → p x ≡ true → q x ≡ true) → filter p (filter q xs) ≡ filter p xs
filter-wider p q [] wider = refl
filter-wider p q (x ∷ xs) wider = by_test (p x) (q x) refl (wider x) (filter-wider p q xs wider) where
  by_test : (passes kept : Bool) → p x ≡ passes → (passes ≡ true → kept ≡ true) → filter p (filter q xs) ≡ filter p xs
      → filter p (cond kept (x ∷ filter q xs) (filter q xs)) ≡ cond passes (x ∷ filter p xs) (filter p xs)
  by_test true true is h e = rw is (ap (λ ys. x ∷ ys) e)
  by_test true false is h e = let bad = h refl in absurd (cc)
  by_test false true is h e = rw is e
  by_test false false is h e = e
