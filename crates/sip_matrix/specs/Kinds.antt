-- Kinds of elements, where a test tells which are alike.
use Rattle.std.specs.Prelude.{Bool, if◌then◌else◌, List, [], ◌∷◌, ◌++◌, fold}
use Rattle.std.specs.List.{list_any}

-- elements of different kinds and one more, unless one of its kind is there
abbrev pub with_kind : {X : Type 0} → (X → X → Bool) → List X → X → List X
with_kind alike firsts x = if list_any (alike x) firsts then firsts else firsts ++ x ∷ []

-- elements of different kinds, and the first of each further kind of a list
abbrev pub with_kinds : {X : Type 0} → (X → X → Bool) → List X → List X → List X
with_kinds alike firsts xs = fold (with_kind alike) firsts xs

-- the first element of each kind of a list
abbrev pub kinds_of : {X : Type 0} → (X → X → Bool) → List X → List X
kinds_of alike xs = with_kinds alike [] xs
