-- A text without capital letters is itself in lower case.
use Rattle.std.proofs.Common.{◌≡◌, ℕ, Bool, true, false, List, [], ◌∷◌, refl, sym, ap, ◌∙◌}
use Rattle.std.specs.Prelude.{◌==◌, ◌&&◌}
use Rattle.std.specs.Char.{to_ascii_lowercase}
use Rattle.std.specs.List.{list_all}
use Rattle.std.proofs.lemmas.Bool.{eqb-true}
use Rattle.sip_text.specs.Words.{without_case}

pub lower_is_itself : (text : List ℕ) → list_all (λ b. to_ascii_lowercase b == b) text ≡ true → text ≡ without_case text
lower_is_itself [] e = refl
lower_is_itself (b ∷ bs) e = by_first (to_ascii_lowercase b == b) refl e (lower_is_itself bs)
  where
    by_first : (t : Bool) → (to_ascii_lowercase b == b) ≡ t → (t && list_all (λ c. to_ascii_lowercase c == c) bs) ≡ true
        → (list_all (λ c. to_ascii_lowercase c == c) bs ≡ true → bs ≡ without_case bs) → (b ∷ bs) ≡ without_case (b ∷ bs)
    by_first true is rest more =
        let same : to_ascii_lowercase b ≡ b = eqb-true (to_ascii_lowercase b) b is in
        ap (λ (x : ℕ). x ∷ bs) (sym same) ∙ ap (λ (xs : List ℕ). to_ascii_lowercase b ∷ xs) (more rest)
    by_first false is rest more = absurd cc
