-- What is added behind what was added.
use Rattle.std.proofs.Common.{◌≡◌, ℕ, ◌+◌, ◌<◌, List, [], ◌∷◌, ◌++◌, length, get_or, take, Result, Ok, Err, sym, ◌∙◌, ap, append_assoc, append-nil}
use Rattle.std.specs.Prelude.{OnOk}
use Rattle.std.specs.List.{flat_map}
use Rattle.std.proofs.lemmas.Grind.{flat_map-append}
use Rattle.std.proofs.lemmas.List.{take_more}

pub more : (out here new text added : List ℕ) → here ≡ out ++ text → new ≡ here ++ added → new ≡ out ++ (text ++ added)
more out here new text added h1 h2 = h2 ∙ ap (λ (l : List ℕ). l ++ added) h1 ∙ append_assoc out text added

pub more_ok : {X E : Type 0} (result : Result X E) (out here new text added : List ℕ) → here ≡ out ++ text → OnOk result (new ≡ here ++ added)
    → OnOk result (new ≡ out ++ (text ++ added))
more_ok (Ok x) out here new text added h1 h2 = more out here new text added h1 h2
more_ok (Err e) out here new text added h1 h2 = tt

-- two more in one
pub two_more_ok : {X E : Type 0} (result : Result X E) (out here new text one other : List ℕ) → here ≡ out ++ text → OnOk result (new ≡ here ++ one ++ other)
    → OnOk result (new ≡ out ++ (text ++ (one ++ other)))
two_more_ok (Ok x) out here new text one other h1 h2 = more out here new text (one ++ other) h1 (h2 ∙ append_assoc here one other)
two_more_ok (Err e) out here new text one other h1 h2 = tt

-- those of one item more
pub item_more : {X Y : Type 0} (f : X → List Y) (xs : List X) (i : ℕ) (x : X) (old before after : List Y) → i < length xs → x ≡ get_or xs i x
    → before ≡ old ++ flat_map f (take i xs) → after ≡ before ++ f x → after ≡ old ++ flat_map f (take (i + 1) xs)
item_more {X} {Y} f xs i x old before after lt is h1 h2 =
    let same : flat_map f (take (i + 1) xs) ≡ flat_map f (take i xs) ++ f x =
    ap (flat_map f) (take_more xs i x lt) ∙ flat_map-append f (take i xs) (get_or xs i x ∷ []) ∙ ap (λ l. flat_map f (take i xs) ++ l) (append-nil (f (get_or xs i x)))
    ∙ ap (λ y. flat_map f (take i xs) ++ f y) (sym is) in
    h2 ∙ ap (λ (l : List Y). l ++ f x) h1 ∙ append_assoc old (flat_map f (take i xs)) (f x) ∙ ap (λ (l : List Y). old ++ l) (sym same)
