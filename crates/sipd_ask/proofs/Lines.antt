-- Lines without their ends.
use Rattle.std.proofs.Common.{◌≡◌, ◌≢◌, ℕ, List, [], ◌∷◌, ◌++◌, length, refl, sym, ap, ◌∙◌, cond, arith}
use Rattle.std.proofs.lemmas.Bool.{ne_eqb}
use Rattle.sipd_ask.specs.User.{without_cr}

pub behind_cr : (line front : List ℕ) → line ≡ front ++ 13 ∷ [] → without_cr line ≡ front
behind_cr line [] is = ap without_cr is
behind_cr line (b ∷ []) is = ap without_cr is
behind_cr line (b ∷ c ∷ rest) is = ap without_cr is ∙ ap (λ (w : List ℕ). b ∷ w) (behind_cr (c ∷ (rest ++ 13 ∷ [])) (c ∷ rest) refl)

other_end : (front : List ℕ) (b : ℕ) → b ≢ 13 → without_cr (front ++ b ∷ []) ≡ front ++ b ∷ []
other_end [] b other = ap (λ t. cond {A = List ℕ} t [] (b ∷ [])) (ne_eqb b 13 other)
other_end (c ∷ []) b other = ap (λ (w : List ℕ). c ∷ w) (other_end [] b other)
other_end (c ∷ d ∷ rest) b other = ap (λ (w : List ℕ). c ∷ w) (other_end (d ∷ rest) b other)

pub behind_other : (line front : List ℕ) (b : ℕ) → line ≡ front ++ b ∷ [] → b ≢ 13 → without_cr line ≡ line
behind_other line front b is other = ap without_cr is ∙ other_end front b other ∙ sym is

pub of_none : (line : List ℕ) → length line ≡ 0 → without_cr line ≡ line
of_none [] e = refl
of_none (b ∷ bs) e = absurd (omega arith)
