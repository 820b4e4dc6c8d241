-- The text of a number below 1,000, digit by digit.
use Rattle.std.proofs.Common.{◌≡◌, ℕ, ◌+◌, ◌/◌, ◌%◌, ◌<◌, ◌≤◌, [], ◌∷◌, ◌++◌, decimal, sym, ap, ◌∙◌, arith}
use Rattle.std.proofs.lemmas.Fmt.{decimal_digit, decimal_step}

pub one_digit : (n : ℕ) → n < 10 → (48 + n % 10) ∷ [] ≡ decimal n
one_digit n lt =
    let last : n % 10 ≡ n = omega arith in
    ap (λ (d : ℕ). (48 + d) ∷ []) last ∙ sym (decimal_digit n lt)

pub two_digits : (n : ℕ) → 10 ≤ n → n < 100 → (48 + n / 10 % 10) ∷ (48 + n % 10) ∷ [] ≡ decimal n
two_digits n some lt =
    sym (decimal_step n some (omega arith) ∙ ap (λ ds. ds ++ (48 + n % 10) ∷ []) (sym (one_digit (n / 10) (omega arith))))

pub three_digits : (n : ℕ) → 100 ≤ n → n < 1000 → (48 + n / 100 % 10) ∷ (48 + n / 10 % 10) ∷ (48 + n % 10) ∷ [] ≡ decimal n
three_digits n some lt =
    let first : n / 10 / 10 ≡ n / 100 = omega arith in
    sym (decimal_step n (omega arith) (omega arith) ∙ ap (λ ds. ds ++ (48 + n % 10) ∷ []) (sym (two_digits (n / 10) (omega arith) (omega arith)))
    ∙ ap (λ (h : ℕ). (48 + h % 10) ∷ (48 + n / 10 % 10) ∷ (48 + n % 10) ∷ []) first)
