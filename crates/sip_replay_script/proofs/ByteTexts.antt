-- How a byte is written in a line `text`, and bytes one behind the other.
use Rattle.std.proofs.Common.{◌≡◌, ℕ, ◌+◌, ◌*◌, ◌/◌, ◌%◌, ◌<◌, ◌≤◌, Bool, true, false, List, [], ◌∷◌, ◌++◌, length, refl, sym, ap, ap₂, ◌∙◌, arith}
use Rattle.std.proofs.Common.{length-append, if◌then◌else◌}
use Rattle.std.specs.Prelude.{not, ◌||◌, ◌==◌, codes, slice_index}
use Rattle.std.specs.List.{list_all}
use Rattle.std.proofs.lemmas.Bool.{ne_eqb}
use Rattle.std.proofs.lemmas.Grind.{flat_map-append}
use Rattle.hex.specs.Hex.{lower_digits}
use Rattle.sip_uri.proofs.Tests.{and_both}
use Rattle.sip_replay_script.specs.Escaped.{byte_text, escaped, has_digits, is_plain}

-- ---- one of five

chosen_first : (p q r s : Bool) (a b c d e : List ℕ) → p ≡ true → (if p then a else if q then b else if r then c else if s then d else e) ≡ a
chosen_first true q r s a b c d e is = refl
chosen_first false q r s a b c d e is = absurd cc

chosen_last : (p q r s : Bool) (a b c d e : List ℕ) → p ≡ false → q ≡ false → r ≡ false → s ≡ false
    → (if p then a else if q then b else if r then c else if s then d else e) ≡ e
chosen_last true q r s a b c d e f g h i = absurd cc
chosen_last false true r s a b c d e f g h i = absurd cc
chosen_last false false true s a b c d e f g h i = absurd cc
chosen_last false false false true a b c d e f g h i = absurd cc
chosen_last false false false false a b c d e f g h i = refl

-- what holds of each of them holds of the one that it is
each_chosen : (P : List ℕ → Type 0) (p q r s : Bool) (a b c d e : List ℕ) → (p ≡ true → P a) → P b → P c → P d → P e
    → P (if p then a else if q then b else if r then c else if s then d else e)
each_chosen P true q r s a b c d e f g h i j = f refl
each_chosen P false true r s a b c d e f g h i j = g
each_chosen P false false true s a b c d e f g h i j = h
each_chosen P false false false true a b c d e f g h i j = i
each_chosen P false false false false a b c d e f g h i j = j

none_of_four : (p q r s : Bool) → not (p || (q || (r || s))) ≡ true → (p ≡ false) × (q ≡ false) × (r ≡ false) × (s ≡ false)
none_of_four true q r s e = absurd cc
none_of_four false true r s e = absurd cc
none_of_four false false true s e = absurd cc
none_of_four false false false true e = absurd cc
none_of_four false false false false e = (refl, refl, refl, refl)

-- ---- the text of a byte

abbrev in_digits : ℕ → List ℕ
in_digits b = 92 ∷ slice_index lower_digits (b / 16) ∷ slice_index lower_digits (b % 16) ∷ []

pub plain_text : (b : ℕ) → is_plain b ≡ true → byte_text b ≡ b ∷ []
unfolding byte_text
plain_text b is = chosen_first (is_plain b) (b == 13) (b == 10) (b == 92) (b ∷ []) (codes "\\r") (codes "\\n") (codes "\\\\") (in_digits b) is

pub cr_text : (b : ℕ) → b ≡ 13 → byte_text b ≡ 92 ∷ 114 ∷ []
unfolding byte_text
cr_text b is = ap byte_text is

pub lf_text : (b : ℕ) → b ≡ 10 → byte_text b ≡ 92 ∷ 110 ∷ []
unfolding byte_text
lf_text b is = ap byte_text is

pub mark_text : (b : ℕ) → b ≡ 92 → byte_text b ≡ 92 ∷ 92 ∷ []
unfolding byte_text
mark_text b is = ap byte_text is

by_tests : (b : ℕ) → is_plain b ≡ false → (b == 13) ≡ false → (b == 10) ≡ false → (b == 92) ≡ false
    → byte_text b ≡ 92 ∷ slice_index lower_digits (b / 16) ∷ slice_index lower_digits (b % 16) ∷ []
unfolding byte_text
by_tests b e f g h = chosen_last (is_plain b) (b == 13) (b == 10) (b == 92) (b ∷ []) (codes "\\r") (codes "\\n") (codes "\\\\") (in_digits b) e f g h

pub digits_text : (b : ℕ) → has_digits b ≡ true → byte_text b ≡ 92 ∷ slice_index lower_digits (b / 16) ∷ slice_index lower_digits (b % 16) ∷ []
digits_text b has = let none = none_of_four (is_plain b) (b == 13) (b == 10) (b == 92) has in by_tests b none.0 none.1 none.2 none.3

-- the same of a byte that was compared, and of digits that were looked up
pub other_text : (b high low : ℕ) → is_plain b ≡ false → (b ≡ 13 → ⊥) → (b ≡ 10 → ⊥) → (b ≡ 92 → ⊥) → high ≡ slice_index lower_digits (b / 16)
    → low ≡ slice_index lower_digits (b % 16) → byte_text b ≡ 92 ∷ high ∷ low ∷ []
other_text b high low plain cr lf mark is_high is_low =
    by_tests b plain (ne_eqb b 13 cr) (ne_eqb b 10 lf) (ne_eqb b 92 mark) ∙ ap₂ (λ (h l : ℕ). 92 ∷ h ∷ l ∷ []) (sym is_high) (sym is_low)

-- what holds of each form holds of the text of a byte
pub each_text : (P : List ℕ → Type 0) (b : ℕ) → (is_plain b ≡ true → P (b ∷ [])) → P (92 ∷ 114 ∷ []) → P (92 ∷ 110 ∷ []) → P (92 ∷ 92 ∷ [])
    → P (92 ∷ slice_index lower_digits (b / 16) ∷ slice_index lower_digits (b % 16) ∷ []) → P (byte_text b)
unfolding byte_text
each_text P b plain cr lf mark digits =
    each_chosen P (is_plain b) (b == 13) (b == 10) (b == 92) (b ∷ []) (codes "\\r") (codes "\\n") (codes "\\\\") (in_digits b) plain cr lf mark digits

text_short : (b : ℕ) → length (byte_text b) ≤ 3
text_short b = each_text (λ (l : List ℕ). length l ≤ 3) b (λ plain. omega arith) (omega arith) (omega arith) (omega arith) (omega arith)

text_some : (b : ℕ) → 1 ≤ length (byte_text b)
text_some b = each_text (λ (l : List ℕ). 1 ≤ length l) b (λ plain. omega arith) (omega arith) (omega arith) (omega arith) (omega arith)

-- ---- the text of bytes

pub escaped_first : (b : ℕ) (bytes : List ℕ) → escaped (b ∷ bytes) ≡ byte_text b ++ escaped bytes
unfolding escaped
escaped_first b bytes = refl

pub escaped_none : escaped [] ≡ []
unfolding escaped
escaped_none = refl

pub escaped_both : (xs ys : List ℕ) → escaped (xs ++ ys) ≡ escaped xs ++ escaped ys
unfolding escaped
escaped_both xs ys = flat_map-append byte_text xs ys

pub escaped_short : (bytes : List ℕ) → length (escaped bytes) ≤ 3 * length bytes
escaped_short [] = omega (arith, ap length escaped_none)
escaped_short (b ∷ bytes) =
    let first : length (byte_text b) ≤ 3 = text_short b in
    let rest : length (escaped bytes) ≤ 3 * length bytes = escaped_short bytes in
    let whole : length (escaped (b ∷ bytes)) ≡ length (byte_text b) + length (escaped bytes) = ap length (escaped_first b bytes)
    ∙ length-append (byte_text b) (escaped bytes) in
    omega (arith, first, rest, whole)

pub escaped_some : (bytes : List ℕ) → 0 < length bytes → 0 < length (escaped bytes)
escaped_some [] some = absurd (omega (arith, some))
escaped_some (b ∷ bytes) some =
    let first : 1 ≤ length (byte_text b) = text_some b in
    let whole : length (escaped (b ∷ bytes)) ≡ length (byte_text b) + length (escaped bytes) = ap length (escaped_first b bytes)
    ∙ length-append (byte_text b) (escaped bytes) in
    omega (arith, first, whole)

-- what is printable stands as it is
pub escaped_plain : (bytes : List ℕ) → list_all is_plain bytes ≡ true → escaped bytes ≡ bytes
escaped_plain [] all = escaped_none
escaped_plain (b ∷ bytes) all =
    let both = and_both (is_plain b) (list_all is_plain bytes) all in
    escaped_first b bytes ∙ ap₂ (λ (l m : List ℕ). l ++ m) (plain_text b both.0) (escaped_plain bytes both.1)
