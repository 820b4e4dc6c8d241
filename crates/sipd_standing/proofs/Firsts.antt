-- A first member that is made by itself.
use Rattle.std.proofs.Common.{◌≡◌, ℕ, List, [], ◌++◌, ◌∙◌, ap}
use Rattle.sipd_calls.specs.declared.notation.Notation.{Notation}
use Rattle.sipd_calls.specs.Notation.{Words, first_text}

pub in_first : (notation : Notation) (name old begun made seen new text : List ℕ) → begun ≡ [] → made ≡ begun ++ text → seen ≡ made
    → new ≡ old ++ first_text notation name (Words seen) → new ≡ old ++ first_text notation name (Words text)
in_first notation name old begun made seen new text empty makes sees adds =
    adds ∙ ap (λ (l : List ℕ). old ++ first_text notation name (Words l)) (sees ∙ makes ∙ ap (λ (l : List ℕ). l ++ text) empty)
