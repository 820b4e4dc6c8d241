-- Texts that are made element by element.
use Rattle.std.proofs.Common.{◌≡◌, ℕ, ◌+◌, ◌<◌, List, [], ◌∷◌, ◌++◌, length, get_or, take, ap, ◌∙◌, append-nil, append_assoc, sym}
use Rattle.std.specs.List.{flat_map}
use Rattle.std.proofs.lemmas.Grind.{flat_map-append}
use Rattle.std.proofs.lemmas.List.{take_more}

-- what one element more gives stands behind what those before it gave
pub one_more : {X : Type 0} (f : X → List ℕ) (xs : List X) (i : ℕ) (x : X) (old before after : List ℕ) → i < length xs → x ≡ get_or xs i x
    → before ≡ old ++ flat_map f (take i xs) → after ≡ before ++ f x → after ≡ old ++ flat_map f (take (i + 1) xs)
one_more f xs i x old before after lt is h1 h2 =
    let same : flat_map f (take (i + 1) xs) ≡ flat_map f (take i xs) ++ f x =
    ap (flat_map f) (take_more xs i x lt) ∙ flat_map-append f (take i xs) (get_or xs i x ∷ []) ∙ ap (λ l. flat_map f (take i xs) ++ l) (append-nil (f (get_or xs i x)))
    ∙ ap (λ y. flat_map f (take i xs) ++ f y) (sym is) in
    h2 ∙ ap (λ (text : List ℕ). text ++ f x) h1 ∙ append_assoc old (flat_map f (take i xs)) (f x) ∙ ap (λ (text : List ℕ). old ++ text) (sym same)
