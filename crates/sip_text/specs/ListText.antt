-- Lists of items between commas (RFC 3261 7.3.1, the quoted text and brackets of 25.1).
use Rattle.std.specs.Prelude.{◌≡◌, ◌≢◌, ℕ, List, [], ◌∷◌, ◌++◌, map}
use Rattle.std.specs.List.{AllByRecursion, flat_map, join_with_byte}
use Rattle.std.specs.Str.{byte}
use Rattle.sip_text.specs.QuotedText.{QuotedPiece, IsQuotedPiece, quoted}
use Rattle.sip_text.specs.Lists.{trimmed}

-- a part of an item: a byte, quoted text, or what stands between `<` and the next `>`
pub data ItemPart : Type 0 where
  OneByte : ℕ → ItemPart
  Quotes : List QuotedPiece → ItemPart
  Brackets : List ℕ → ItemPart

-- a byte on its own begins no quoted text and no bracket, and is no comma; in brackets a quote is a
-- byte like any other
abbrev pub IsItemPart : ItemPart → Type 0
IsItemPart (OneByte b) = (b ≢ byte ",") × (b ≢ byte "\"") × (b ≢ byte "<")
IsItemPart (Quotes pieces) = AllByRecursion IsQuotedPiece pieces
IsItemPart (Brackets bytes) = AllByRecursion (λ b. b ≢ byte ">") bytes

-- how a part is written
abbrev pub part_text : ItemPart → List ℕ
part_text (OneByte b) = b ∷ []
part_text (Quotes pieces) = quoted pieces
part_text (Brackets bytes) = byte "<" ∷ (bytes ++ byte ">" ∷ [])

-- text without a comma outside quoted text and brackets, each of which is closed
pub record IsItemText (text : List ℕ) : Type 0 where
  pub parts : List ItemPart
  pub each : AllByRecursion IsItemPart parts
  pub written : text ≡ flat_map part_text parts

-- the items of a list: what stands between its commas, trimmed; there is one, and none is empty
pub record IsList (text : List ℕ) (items : List (List ℕ)) : Type 0 where
  pub between : List (List ℕ)
  pub some : between ≢ []
  pub each : AllByRecursion IsItemText between
  pub written : text ≡ join_with_byte (byte ",") between
  pub trims : items ≡ map trimmed between
  pub full : AllByRecursion (λ item. item ≢ []) items
