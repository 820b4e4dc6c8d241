-- Fields of CSV are read back.
use Rattle.std.proofs.Common.{◌≡◌, ℕ, Bool, true, false, ◌||◌, List, [], ◌∷◌, ◌++◌, append_assoc, refl, ◌∙◌, ap, if◌then◌else◌}
use Rattle.std.specs.Prelude.{◌==◌}
use Rattle.std.specs.List.{flat_map, list_any}
use Rattle.sipd_report.specs.Cells.{is_special, quoted_byte, field_text, quoted_field, field_of}

-- a byte that is no quote stands for itself
plain_first : (b : ℕ) (more : List ℕ) → (b == 34) ≡ false → quoted_field (b ∷ more) ≡ b ∷ quoted_field more
plain_first b [] e = ap (λ (q : Bool). if q then [] else b ∷ []) e
plain_first b (c ∷ rest) e = ap (λ (q : Bool). if q then (if c == 34 then b ∷ quoted_field rest else []) else b ∷ quoted_field (c ∷ rest)) e

quoted_first : (quote : Bool) (b : ℕ) (more : List ℕ) → (b == 34) ≡ quote → quoted_field ((if quote then b ∷ b ∷ [] else b ∷ []) ++ more) ≡ b ∷ quoted_field more
quoted_first true b more e = ap (λ (q : Bool). if q then (if q then b ∷ quoted_field more else []) else b ∷ quoted_field (b ∷ more)) e
quoted_first false b more e = plain_first b more e

quoted_back : (text : List ℕ) → quoted_field (flat_map quoted_byte text ++ 34 ∷ []) ≡ text
quoted_back [] = refl
quoted_back (b ∷ bs) =
    ap quoted_field (append_assoc (quoted_byte b) (flat_map quoted_byte bs) (34 ∷ [])) ∙ quoted_first (b == 34) b (flat_map quoted_byte bs ++ 34 ∷ []) refl
    ∙ ap (λ l. b ∷ l) (quoted_back bs)

-- a text without such a byte begins with no quote
unquoted_back : (text : List ℕ) → list_any is_special text ≡ false → field_of text ≡ text
unquoted_back [] none = refl
unquoted_back (b ∷ bs) none = by (b == 34) none
  where
    by : (quote : Bool) → ((quote || b == 44 || b == 13 || b == 10) || list_any is_special bs) ≡ false → (if quote then quoted_field bs else b ∷ bs) ≡ b ∷ bs
    by true none = absurd cc
    by false none = refl

pub field_back : (text : List ℕ) → field_of (field_text text) ≡ text
field_back text = by (list_any is_special text) refl
  where
    by : (quoted : Bool) → list_any is_special text ≡ quoted → field_of (if quoted then (34 ∷ []) ++ flat_map quoted_byte text ++ (34 ∷ []) else text) ≡ text
    by true e = quoted_back text
    by false e = unquoted_back text e
