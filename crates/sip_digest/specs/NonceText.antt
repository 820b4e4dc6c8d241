-- The text of a nonce (this project's choice).
use Rattle.std.specs.Prelude.{ℕ, ◌+◌, ◌*◌, ◌-◌, ◌%◌, ◌≡◌, ◌<◌, map, ◌&&◌, ◌==◌, nat_le, nat_lt, if◌then◌else◌, List, [], ◌∷◌, length, Option, Some, None}
use Rattle.std.specs.Simd.Lanes.{Each1}
use Rattle.std.specs.Str.{bytes_eq}
use Rattle.std.specs.Int.{w128, to_be_bytes}
use Rattle.std.specs.Option.{option_and_then}
use Rattle.hex.specs.Hex.{encode_lower}
use Rattle.sip_digest.specs.HexNumber.{hex_number_of}

-- the text of a word's nonce: its 32 hexadecimal digits in lower case, the high half first
unfoldable pub nonce_text : ℕ → List ℕ
nonce_text word = encode_lower (to_be_bytes w128 word)

-- the word that a text names: the one whose nonce's text it is, byte by byte
abbrev pub named : List ℕ → ℕ → Option ℕ
named text word = if bytes_eq (nonce_text word) text then Some word else None

-- the word whose nonce a text is, if it is one's
abbrev pub word_of : List ℕ → Option ℕ
word_of text = if length text == 32 then option_and_then (named text) (hex_number_of text) else None

-- the value of a hexadecimal digit in lower case
abbrev pub lower_value : ℕ → Option ℕ
lower_value b = if nat_le 48 b && nat_le b 57 then Some (b - 48) else if nat_le 97 b && nat_le b 102 then Some (b - 87) else None

-- ---- inside

-- the number that digits in lower case write behind one
abbrev pub read_lower : ℕ → List ℕ → Option ℕ
read_lower n [] = Some n
read_lower n (b ∷ bs) = option_and_then (λ d. read_lower (n * 16 + d) bs) (lower_value b)

-- the value of a byte that is a digit in lower case
abbrev pub lane_value : ℕ → ℕ
lane_value b = if nat_le 48 b && nat_le b 57 then b - 48 else (b + 256 - 87) % 256

-- the digit in lower case of a value below 16
abbrev pub lane_digit : ℕ → ℕ
lane_digit v = if nat_lt v 10 then (v + 48) % 256 else (v + 87) % 256

-- the number that digits of these values write behind one
abbrev pub join : ℕ → List ℕ → ℕ
join n [] = n
join n (v ∷ vs) = join (n * 16 + v) vs

-- sixteen values of digits
pub record HasDigits (values : List ℕ) : Type 0 where
  pub size : length values ≡ 16
  pub small : Each1 (λ v. v < 16) values

-- sixteen digits in lower case, by the values that they have
pub record AreLower (digits : List ℕ) : Type 0 where
  pub values : HasDigits (map lane_value digits)
  pub read : read_lower 0 digits ≡ Some (join 0 (map lane_value digits))
