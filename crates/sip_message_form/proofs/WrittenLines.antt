-- The length of a line that stands as it is written, and the end of a message without a body.
use Rattle.std.proofs.Common.{◌≡◌, ℕ, true, ◌==◌, refl, ◌-◌, ◌^◌, ◌≤◌, List, [], ◌∷◌, ◌++◌, length, min, ap, sym, ◌∙◌, arith, append_assoc, append-nil}
use Rattle.std.specs.Prelude.{codes, decimal}
use Rattle.std.proofs.lemmas.Bool.{eqb-true}
use Rattle.std.proofs.lemmas.Fmt.{decimal_digit}
use Rattle.std.proofs.Math.Nat.{min-le_left, le-min}
use Rattle.sip_message_fields.specs.declared.field.Field.{Field}
use Rattle.sip_message_fields.specs.Lines.{line_of}
use Rattle.sip_message_form.specs.Text.{field_text}

pub line_length : (f : Field) (line : List ℕ) → line ≡ line_of f → length line ≤ 2 ^ 64 - 1 → length line ≡ min (length (field_text f)) (2 ^ 64 - 1)
line_length f line is fits =
    let same : length line ≡ length (field_text f) = ap length is in
    let low : length line ≤ min (length (field_text f)) (2 ^ 64 - 1) = le-min {k = length line} {a = length (field_text f)} {b = 2 ^ 64 - 1} (omega (arith, same)) fits in
    omega (arith, same, low, min-le_left (length (field_text f)) (2 ^ 64 - 1))

no_body : (out name number ends : List ℕ) → out ++ (name ++ number ++ ends) ≡ out ++ name ++ number ++ ends ++ []
no_body out name number ends = simp (append_assoc, append-nil)

nothing : (xs : List ℕ) → (length xs == 0) ≡ true → xs ≡ []
nothing [] e = refl
nothing (b ∷ bs) e = absurd (omega (arith, eqb-true (length (b ∷ bs)) 0 e))

pub empty_body : (out body : List ℕ) → (length body == 0) ≡ true → out ++ codes "Content-Length: 0\r\n\r\n" ≡ out ++ codes "Content-Length: " ++ decimal (length body)
    ++ codes "\r\n\r\n" ++ body
empty_body out body none =
    ap (λ (w : List ℕ). out ++ (codes "Content-Length: " ++ w ++ codes "\r\n\r\n")) (sym (decimal_digit 0 (omega arith)))
    ∙ no_body out (codes "Content-Length: ") (decimal 0) (codes "\r\n\r\n")
    ∙ ap (λ (w : List ℕ). out ++ codes "Content-Length: " ++ decimal (length w) ++ codes "\r\n\r\n" ++ w) (sym (nothing body none))
