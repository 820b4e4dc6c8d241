-- The lines of a text, cut off one by one.
use Rattle.std.proofs.Common.{ℕ, ◌≡◌, ◌<◌, ◌==◌, Bool, true, false, List, [], ◌∷◌, length, Option, Some, None, refl, sym, ap, subst, ◌∙◌, arith}
use Rattle.sip_text.specs.Lists.{onto}
use Rattle.sip_text.specs.Splits.{in_front, split_at_byte}
use Rattle.sip_text.specs.TextLines.{lines_of}

-- a text is cut so: a line, what stands behind its LF; or the last line
abbrev pub CutSo : List ℕ → Option (List ℕ × List ℕ) → Type 0
CutSo bytes None = lines_of bytes ≡ bytes ∷ []
CutSo bytes (Some parts) = (lines_of bytes ≡ parts.0 ∷ lines_of parts.1) × (length parts.1 < length bytes)

lines_here : (b : ℕ) (bs : List ℕ) → (b == 10) ≡ true → lines_of (b ∷ bs) ≡ [] ∷ lines_of bs
lines_here b bs e = rw e refl

lines_on : (b : ℕ) (bs : List ℕ) → (b == 10) ≡ false → lines_of (b ∷ bs) ≡ onto (b ∷ []) (lines_of bs)
lines_on b bs e = rw e refl

split_here : (b : ℕ) (bs : List ℕ) → (b == 10) ≡ true → split_at_byte 10 (b ∷ bs) ≡ Some ([], bs)
split_here b bs e = rw e refl

split_on : (b : ℕ) (bs : List ℕ) → (b == 10) ≡ false → split_at_byte 10 (b ∷ bs) ≡ in_front (b ∷ []) (split_at_byte 10 bs)
split_on b bs e = rw e refl

cut_on : (b : ℕ) (bs : List ℕ) (cut : Option (List ℕ × List ℕ)) → (b == 10) ≡ false → CutSo bs cut → CutSo (b ∷ bs) (in_front (b ∷ []) cut)
cut_on b bs None e so = lines_on b bs e ∙ ap (onto (b ∷ [])) so
cut_on b bs (Some parts) e so = (lines_on b bs e ∙ ap (onto (b ∷ [])) so.0, omega (arith, so.1))

cut_here : (b : ℕ) (bs : List ℕ) → (b == 10) ≡ true → CutSo (b ∷ bs) (Some ([], bs))
cut_here b bs e = (lines_here b bs e, omega arith)

cut_either : (b : ℕ) (bs : List ℕ) (is : Bool) → (b == 10) ≡ is → CutSo bs (split_at_byte 10 bs) → CutSo (b ∷ bs) (split_at_byte 10 (b ∷ bs))
cut_either b bs true e so = subst (λ cut. CutSo (b ∷ bs) cut) (sym (split_here b bs e)) (cut_here b bs e)
cut_either b bs false e so = subst (λ cut. CutSo (b ∷ bs) cut) (sym (split_on b bs e)) (cut_on b bs (split_at_byte 10 bs) e so)

cut_so : (bytes : List ℕ) → CutSo bytes (split_at_byte 10 bytes)
cut_so [] = refl
cut_so (b ∷ bs) = cut_either b bs (b == 10) refl (cut_so bs)

-- a line in front of others
pub line_cut : (bytes line rest : List ℕ) → Some (line, rest) ≡ split_at_byte 10 bytes → CutSo bytes (Some (line, rest))
line_cut bytes line rest e = subst (λ cut. CutSo bytes cut) (sym e) (cut_so bytes)

-- the last line
pub last_cut : (bytes : List ℕ) → None ≡ split_at_byte 10 bytes → lines_of bytes ≡ bytes ∷ []
last_cut bytes e = subst (λ cut. CutSo bytes cut) (sym e) (cut_so bytes)

-- behind a line less is left
pub less_behind : (bytes line rest : List ℕ) → Some (line, rest) ≡ split_at_byte 10 bytes → length rest < length bytes
less_behind bytes line rest e = (line_cut bytes line rest e).1
