-- Reading what stands between marks, one after another.
use Rattle.std.proofs.Common.{◌≡◌, ℕ, ◌+◌, List, [], ◌∷◌, ◌++◌, length, Option, Some, None, refl, ap, append_assoc}
use Rattle.std.specs.Prelude.{option_map}
use Rattle.std.specs.Option.{option_and_then}

-- how much is left to read
abbrev pub length_left : Option (List ℕ) → ℕ
length_left None = 0
length_left (Some text) = length text + 1

-- what was made, in front of what the rest gives
abbrev pub behind : {X : Type 0} → List X → Option (List X) → Option (List X)
behind done others = option_map (λ xs. done ++ xs) others

-- one more, in front of what the rest gives
abbrev pub with_first : {X : Type 0} → Option X → Option (List X) → Option (List X)
with_first first others = option_and_then (λ x. option_map (λ xs. x ∷ xs) others) first

pub behind_more : {X : Type 0} (done : List X) (x : X) (others : Option (List X)) → behind (done ++ x ∷ []) others ≡ behind done (option_map (λ xs. x ∷ xs) others)
behind_more done x None = refl
behind_more {X = X} done x (Some xs) = ap (λ (w : List X). Some w) (append_assoc done (x ∷ []) xs)
