-- The first row of a table that applies.
use Rattle.std.proofs.Common.{◌≡◌, List, ◌∷◌, Bool, true, false, ◌||◌, find, Some, refl}

pub third_applies : {A : Type 0} (applies : A → Bool) (first second third : A) (rest : List A) → applies first ≡ false
    → applies second ≡ false → applies third ≡ true → find applies (first ∷ second ∷ third ∷ rest) ≡ Some third
third_applies applies first second third rest a b c = rw (a, b, c) refl

pub first_applies : {A : Type 0} (applies : A → Bool) (first : A) (rest : List A) → applies first ≡ true
    → find applies (first ∷ rest) ≡ Some first
first_applies applies first rest a = rw a refl

-- the fifth of some tests
pub fifth_holds : (a b c d e rest : Bool) → e ≡ true → (a || (b || (c || (d || (e || rest))))) ≡ true
fifth_holds true b c d e rest is = refl
fifth_holds false true c d e rest is = refl
fifth_holds false false true d e rest is = refl
fifth_holds false false false true e rest is = refl
fifth_holds false false false false e rest is = rw is refl
