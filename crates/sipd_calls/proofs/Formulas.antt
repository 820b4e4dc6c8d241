-- What no cell begins with.
use Rattle.std.proofs.Common.{◌≡◌, ℕ, Bool, true, false, List, [], ◌∷◌, ◌++◌, refl, sym}
use Rattle.std.specs.Prelude.{nat_lt, if◌then◌else◌}
use Rattle.std.specs.List.{flat_map, list_any}
use Rattle.std.specs.Str.{IsUtf8, byte, is_utf8}
use Rattle.std.proofs.lemmas.Str.{IsUtf8-from_is_utf8, is_utf8-from_IsUtf8}
use Rattle.sipd_report.specs.Cells.{field_text, is_special, quoted_byte}
use Rattle.sipd_calls.specs.Notation.{begins_formula, cell_said, is_formula, plain_text, spelled_byte}

-- an escape begins with a backslash
spelled_by : (is : Bool) (b : ℕ) (escape rest : List ℕ) → begins_formula b ≡ false
    → is_formula ((if is then 92 ∷ escape else b ∷ []) ++ rest) ≡ false
spelled_by true b escape rest h = refl
spelled_by false b escape rest h = h

plain_by : (is : Bool) (text : List ℕ) → is_formula text ≡ false → is_formula (if is then text else flat_map spelled_byte text) ≡ false
plain_by true text h = h
plain_by false [] h = refl
plain_by false (b ∷ bs) h = spelled_by (nat_lt 127 b) b _ (flat_map spelled_byte bs) h

cell_by : (is : Bool) (text : List ℕ) → is_formula text ≡ is → is_formula ((if is then byte "'" ∷ [] else []) ++ plain_text text) ≡ false
cell_by true text h = refl
cell_by false text h = plain_by (is_utf8 text) text h

pub cell_is_plain : (text : List ℕ) → is_formula (cell_said text) ≡ false
cell_is_plain text = cell_by (is_formula text) text refl

-- nor does one that is quoted
field_by : (is : Bool) (text : List ℕ) → is_formula text ≡ false
    → is_formula (if is then (34 ∷ []) ++ flat_map quoted_byte text ++ (34 ∷ []) else text) ≡ false
field_by true text h = refl
field_by false text h = h

pub written_is_plain : (text : List ℕ) → is_formula (field_text (cell_said text)) ≡ false
written_is_plain text = field_by (list_any is_special (cell_said text)) (cell_said text) (cell_is_plain text)

-- ---- UTF-8

pub is_whole : (text : List ℕ) → IsUtf8 text → true ≡ is_utf8 text
is_whole text h = sym (is_utf8-from_IsUtf8 text h)

broken_by : (text : List ℕ) (is : Bool) → is_utf8 text ≡ is → (IsUtf8 text → ⊥) → false ≡ is
broken_by text true there none = absurd (none (IsUtf8-from_is_utf8 text there))
broken_by text false there none = refl

pub is_broken : (text : List ℕ) → (IsUtf8 text → ⊥) → false ≡ is_utf8 text
is_broken text none = broken_by text (is_utf8 text) refl none
