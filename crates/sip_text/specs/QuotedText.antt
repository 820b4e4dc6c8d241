-- Quoted text (RFC 3261 25.1, quoted-string), over all bytes.
use Rattle.std.specs.Prelude.{◌≡◌, ◌≢◌, ℕ, List, [], ◌∷◌, ◌++◌, map}
use Rattle.std.specs.List.{AllByRecursion, flat_map}
use Rattle.std.specs.Str.{byte}

-- what stands between the quotes: a byte for itself (qdtext), or a `\` and the byte that it takes
-- along (quoted-pair)
pub data QuotedPiece : Type 0 where
  QdText : ℕ → QuotedPiece
  QuotedPair : ℕ → QuotedPiece

-- a byte for itself is neither `"` nor `\`
abbrev pub IsQuotedPiece : QuotedPiece → Type 0
IsQuotedPiece (QdText b) = (b ≢ byte "\"") × (b ≢ byte "\\")
IsQuotedPiece (QuotedPair b) = Unit {0}

-- how a piece is written
abbrev pub piece_text : QuotedPiece → List ℕ
piece_text (QdText b) = b ∷ []
piece_text (QuotedPair b) = byte "\\" ∷ b ∷ []

-- the byte that a piece says
abbrev pub piece_byte : QuotedPiece → ℕ
piece_byte (QdText b) = b
piece_byte (QuotedPair b) = b

-- pieces between quotes
abbrev pub quoted : List QuotedPiece → List ℕ
quoted pieces = byte "\"" ∷ (flat_map piece_text pieces ++ byte "\"" ∷ [])

-- quoted text that says these bytes
pub record IsQuoted (text bytes : List ℕ) : Type 0 where
  pub pieces : List QuotedPiece
  pub each : AllByRecursion IsQuotedPiece pieces
  pub written : text ≡ quoted pieces
  pub says : bytes ≡ map piece_byte pieces
