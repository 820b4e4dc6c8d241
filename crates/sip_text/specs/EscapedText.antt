-- Text with escapes `%HH` (RFC 3261 25.1, escaped).
use Rattle.std.specs.Prelude.{◌≡◌, ◌≢◌, ℕ, ◌+◌, ◌*◌, true, List, [], ◌∷◌, map}
use Rattle.std.specs.List.{AllByRecursion, flat_map}
use Rattle.std.specs.Char.{is_ascii_hexdigit, digit_value}
use Rattle.std.specs.Str.{byte}

-- a byte for itself, or a `%` and two hexadecimal digits
pub data EscapedPiece : Type 0 where
  Plain : ℕ → EscapedPiece
  Escape : ℕ → ℕ → EscapedPiece

-- a byte for itself is no `%`; digits may be in either case
abbrev pub IsEscapedPiece : EscapedPiece → Type 0
IsEscapedPiece (Plain b) = b ≢ byte "%"
IsEscapedPiece (Escape high low) = (is_ascii_hexdigit high ≡ true) × (is_ascii_hexdigit low ≡ true)

-- how a piece is written
abbrev pub escaped_text : EscapedPiece → List ℕ
escaped_text (Plain b) = b ∷ []
escaped_text (Escape high low) = byte "%" ∷ high ∷ low ∷ []

-- the byte that a piece stands for
abbrev pub escaped_byte : EscapedPiece → ℕ
escaped_byte (Plain b) = b
escaped_byte (Escape high low) = 16 * digit_value high + digit_value low

-- text with escapes that stands for these bytes
pub record IsEscaped (text bytes : List ℕ) : Type 0 where
  pub pieces : List EscapedPiece
  pub each : AllByRecursion IsEscapedPiece pieces
  pub written : text ≡ flat_map escaped_text pieces
  pub says : bytes ≡ map escaped_byte pieces
