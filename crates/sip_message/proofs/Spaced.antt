-- A value behind one space.
use Rattle.std.proofs.Common.{◌≡◌, ℕ, suc, ◌-◌, ◌<◌, ◌≤◌, true, false, List, [], ◌∷◌, length, drop, get_or, refl, sym, ap, subst, ◌∙◌, arith}
use Rattle.std.specs.Prelude.{◌==◌}
use Rattle.sip_text.specs.Lists.{is_blank, trimmed}
use Rattle.sip_text.proofs.Trims.{ends_full, tight_behind}
use Rattle.sip_text_runs.proofs.OneValue.{over_blank}
use Rattle.sip_message.specs.Lines.{is_fold}

-- bytes end with no blank whose last one is none
last_full : (b : ℕ) (bs : List ℕ) → is_blank (get_or (b ∷ bs) (length bs) 0) ≡ false → ends_full (b ∷ bs)
last_full b [] e = e
last_full b (c ∷ bs) e = last_full c bs e

pub spaced : (bytes value : List ℕ) → 2 ≤ length bytes → get_or bytes 0 0 ≡ 32 → 32 < get_or bytes 1 0 → 32 < get_or bytes (length bytes - 1) 0 → value ≡ drop 1 bytes
    → value ≡ trimmed bytes
spaced [] value fits first second last is = absurd (omega arith)
spaced (b ∷ []) value fits first second last is = absurd (omega arith)
spaced (b ∷ c ∷ bs) value fits first second last is =
    let at : length (b ∷ c ∷ bs) - 1 ≡ suc (length bs) = omega arith in
    let full : is_blank (get_or (c ∷ bs) (length bs) 0) ≡ false = subst (λ (n : ℕ). is_blank (get_or (b ∷ c ∷ bs) n 0) ≡ false) at
    (over_blank (get_or (b ∷ c ∷ bs) (length (b ∷ c ∷ bs) - 1) 0) last) in
    is ∙ sym (ap (λ (x : ℕ). trimmed (x ∷ c ∷ bs)) first ∙ tight_behind (c ∷ bs) (over_blank c second, last_full c bs full))

pub one_space : (bytes value : List ℕ) → 2 ≤ length bytes → get_or bytes 0 0 ≡ 32 → value ≡ drop 1 bytes → bytes ≡ 32 ∷ value
one_space [] value fits first is = absurd (omega arith)
one_space (b ∷ bs) value fits first is = ap (λ (x : ℕ). x ∷ bs) first ∙ ap (λ (w : List ℕ). 32 ∷ w) (sym is)

-- ---- whether a line goes on with the one before it

not_empty : (xs : List ℕ) → 0 < length xs → (length xs == 0) ≡ false
not_empty xs some = grind (arith, some)

pub empty_fold : (line : List ℕ) → (length line == 0) ≡ true → false ≡ is_fold line
empty_fold [] e = refl
empty_fold (b ∷ bs) e =
    let clash : true ≡ false = sym e ∙ not_empty (b ∷ bs) (omega arith) in
    absurd cc

pub first_fold : (line : List ℕ) → (length line == 0) ≡ false → is_blank (get_or line 0 0) ≡ is_fold line
first_fold [] e = absurd cc
first_fold (b ∷ bs) e = refl
