-- Where the numbers of a server are put.
use Rattle.std.specs.Prelude.{ℕ, List, [], ◌∷◌, ◌++◌, Option, option_map}

-- the texts that were put there with one more, if they are told
abbrev pub with_text : List ℕ → Option (List (List ℕ)) → Option (List (List ℕ))
with_text text texts = option_map (λ (list : List (List ℕ)). list ++ text ∷ []) texts
