-- Texts that are made part by part.
use Rattle.std.proofs.Common.{◌≡◌, ℕ, ◌+◌, ◌<◌, List, [], ◌∷◌, ◌++◌, length, get_or, take, ap, ◌∙◌, sym, append-nil, append_assoc}
use Rattle.std.specs.List.{flat_map}
use Rattle.std.proofs.lemmas.Grind.{flat_map-append}
use Rattle.std.proofs.lemmas.List.{take_more}
use Rattle.sipd_calls.specs.declared.notation.Notation.{Notation}
use Rattle.sipd_calls.specs.Notation.{Words, further_text}
use Rattle.sipd_calls.specs.Cells.{cell}

pub two_parts : (old a b one two : List ℕ) → one ≡ old ++ a → two ≡ one ++ b → two ≡ old ++ (a ++ b)
two_parts old a b one two h1 h2 = h2 ∙ ap (λ (text : List ℕ). text ++ b) h1 ∙ append_assoc old a b

pub three_parts : (old a b c one two three : List ℕ) → one ≡ old ++ a → two ≡ one ++ b → three ≡ two ++ c → three ≡ old ++ (a ++ b ++ c)
three_parts old a b c one two three h1 h2 h3 = two_parts old (a ++ b) c two three (two_parts old a b one two h1 h2) h3

pub four_parts : (old a b c d one two three four : List ℕ) → one ≡ old ++ a → two ≡ one ++ b → three ≡ two ++ c → four ≡ three ++ d
    → four ≡ old ++ (a ++ b ++ c ++ d)
four_parts old a b c d one two three four h1 h2 h3 h4 = two_parts old (a ++ b ++ c) d three four (three_parts old a b c one two three h1 h2 h3) h4

pub five_parts : (old a b c d e one two three four five : List ℕ) → one ≡ old ++ a → two ≡ one ++ b → three ≡ two ++ c → four ≡ three ++ d → five ≡ four ++ e
    → five ≡ old ++ (a ++ b ++ c ++ d ++ e)
five_parts old a b c d e one two three four five h1 h2 h3 h4 h5 =
    two_parts old (a ++ b ++ c ++ d) e four five (four_parts old a b c d one two three four h1 h2 h3 h4) h5

-- what one element more gives stands behind what those before it gave
pub one_more : {X : Type 0} (f : X → List ℕ) (xs : List X) (i : ℕ) (x : X) (old before after : List ℕ) → i < length xs → x ≡ get_or xs i x
    → before ≡ old ++ flat_map f (take i xs) → after ≡ before ++ f x → after ≡ old ++ flat_map f (take (i + 1) xs)
one_more f xs i x old before after lt is h1 h2 =
    let same : flat_map f (take (i + 1) xs) ≡ flat_map f (take i xs) ++ f x =
    ap (flat_map f) (take_more xs i x lt) ∙ flat_map-append f (take i xs) (get_or xs i x ∷ []) ∙ ap (λ l. flat_map f (take i xs) ++ l) (append-nil (f (get_or xs i x)))
    ∙ ap (λ y. flat_map f (take i xs) ++ f y) (sym is) in
    h2 ∙ ap (λ (text : List ℕ). text ++ f x) h1 ∙ append_assoc old (flat_map f (take i xs)) (f x) ∙ ap (λ (text : List ℕ). old ++ text) (sym same)

-- ---- a text of its own

-- one that is made by itself, and then put into a cell
pub in_cell : (width : ℕ) (old begun made seen new text : List ℕ) → begun ≡ [] → made ≡ begun ++ text → seen ≡ made → new ≡ old ++ cell width seen
    → new ≡ old ++ cell width text
in_cell width old begun made seen new text empty makes sees adds =
    adds ∙ ap (λ (l : List ℕ). old ++ cell width l) (sees ∙ makes ∙ ap (λ (l : List ℕ). l ++ text) empty)

-- or into a member
pub in_member : (notation : Notation) (name old begun made seen new text : List ℕ) → begun ≡ [] → made ≡ begun ++ text → seen ≡ made
    → new ≡ old ++ further_text notation name (Words seen) → new ≡ old ++ further_text notation name (Words text)
in_member notation name old begun made seen new text empty makes sees adds =
    adds ∙ ap (λ (l : List ℕ). old ++ further_text notation name (Words l)) (sees ∙ makes ∙ ap (λ (l : List ℕ). l ++ text) empty)
