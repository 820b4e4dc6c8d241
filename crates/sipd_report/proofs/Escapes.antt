-- No byte of an escaped text is markup, and each `&` in it begins a name or a number.
use Rattle.std.proofs.Common.{◌≡◌, ℕ, Bool, true, false, ◌&&◌, ◌||◌, ◌==◌, cond, List, [], ◌∷◌, ◌++◌, refl, ap, ap₂, ◌∙◌}
use Rattle.std.specs.List.{list_any}
use Rattle.std.specs.Prelude.{codes}
use Rattle.std.specs.Str.{byte}
use Rattle.std.proofs.lemmas.List.Folds.{list_any-append}
use Rattle.sipd_report.specs.Html.{are_references, begins_reference, escaped, escaped_byte, is_markup}

-- a byte that isn't written by its name or number is no markup
module _ (b : ℕ) where
  plain : (amp lt gt quote tick : Bool) → b == byte "&" ≡ amp → b == byte "<" ≡ lt → b == byte ">" ≡ gt → b == byte "\"" ≡ quote → b == byte "'" ≡ tick
      → list_any is_markup (cond amp (codes "&amp;") (cond lt (codes "&lt;") (cond gt (codes "&gt;") (cond quote (codes "&quot;") (cond tick (codes "&#39;") (b ∷ []))))))
      ≡ false
  plain true lt gt quote tick a e f g h = refl
  plain false true gt quote tick a e f g h = refl
  plain false false true quote tick a e f g h = refl
  plain false false false true tick a e f g h = refl
  plain false false false false true a e f g h = refl
  plain false false false false false a e f g h =
      ap (λ (x : Bool). x || false) (ap₂ (λ (x y : Bool). x || y) e (ap₂ (λ (x y : Bool). x || y) f (ap₂ (λ (x y : Bool). x || y) g h)))

  byte_is_plain : list_any is_markup (escaped_byte b) ≡ false
  byte_is_plain =
      plain (b == byte "&") (b == byte "<") (b == byte ">") (b == byte "\"") (b == byte "'") refl refl refl refl refl

  -- what stands behind a byte that is written so stands behind it still
  named : (rest : List ℕ) → are_references rest ≡ true → (amp lt gt quote tick : Bool) → b == byte "&" ≡ amp
      → are_references (cond amp (codes "&amp;") (cond lt (codes "&lt;") (cond gt (codes "&gt;") (cond quote (codes "&quot;") (cond tick (codes "&#39;") (b ∷ [])))))
      ++ rest) ≡ true
  named rest e true lt gt quote tick a = e
  named rest e false true gt quote tick a = e
  named rest e false false true quote tick a = e
  named rest e false false false true tick a = e
  named rest e false false false false true a = e
  named rest e false false false false false a = ap (λ (x : Bool). cond x (begins_reference rest) true && are_references rest) a ∙ e

  byte_is_named : (rest : List ℕ) → are_references rest ≡ true → are_references (escaped_byte b ++ rest) ≡ true
  byte_is_named rest e = named rest e (b == byte "&") (b == byte "<") (b == byte ">") (b == byte "\"") (b == byte "'") refl

pub no_markup : (text : List ℕ) → list_any is_markup (escaped text) ≡ false
no_markup [] = refl
no_markup (b ∷ bs) =
    list_any-append is_markup (escaped_byte b) (escaped bs) ∙ ap₂ (λ (x y : Bool). x || y) (byte_is_plain b) (no_markup bs)

pub references : (text : List ℕ) → are_references (escaped text) ≡ true
references [] = refl
references (b ∷ bs) = byte_is_named b (escaped bs) (references bs)
