-- The bytes of a datagram as a line `text` has them: what is printable as it is, and nothing that ends a line (this project's profile).
use Rattle.std.specs.Prelude.{◌≡◌, ◌<◌, ℕ, ◌+◌, ◌*◌, ◌/◌, ◌%◌, ◌==◌, ◌&&◌, ◌||◌, Bool, false, not, nat_le, if◌then◌else◌, List, [], ◌∷◌, ◌++◌, length, take}
use Rattle.std.specs.Prelude.{slice_index, codes, Option, Some, None, option_map}
use Rattle.std.specs.List.{flat_map}
use Rattle.std.specs.Option.{option_and_then}
use Rattle.std.specs.Str.{byte}
use Rattle.hex.specs.Hex.{lower_digits}
use Rattle.sip_digest.specs.NonceText.{lower_value}

-- ---- how it is written

-- printable ASCII, the space among it, but not `\`
abbrev pub is_plain : ℕ → Bool
is_plain b = nat_le 32 b && nat_le b 126 && not (b == byte "\\")

-- a byte for itself, CR as `\r`, LF as `\n` and `\` as `\\`; any other as `\` and its two hexadecimal digits in lower case
unfoldable pub byte_text : ℕ → List ℕ
byte_text b =
    if is_plain b then b ∷ []
    else if b == byte "\r" then codes "\\r"
    else if b == byte "\n" then codes "\\n"
    else if b == byte "\\" then codes "\\\\"
    else byte "\\" ∷ slice_index lower_digits (b / 16) ∷ slice_index lower_digits (b % 16) ∷ []

-- the text of a datagram
unfoldable pub escaped : List ℕ → List ℕ
escaped bytes = flat_map byte_text bytes

-- ---- how it is read: each datagram has one text

-- what has come of a byte's text that isn't whole: nothing, its `\`, or this and the first digit
pub data Begun : Type 0 where
  Nothing : Begun
  Mark : Begun
  Digit : ℕ → Begun

-- what the next byte makes of that: this byte's text is whole now, or isn't yet, or no byte's text goes on so
pub data Step : Type 0 where
  Byte : ℕ → Step
  Part : Begun → Step
  Bad : Step

-- the byte that a letter behind `\` stands for
abbrev pub letter_byte : ℕ → Option ℕ
letter_byte c =
    if c == byte "r" then Some (byte "\r")
    else if c == byte "n" then Some (byte "\n")
    else if c == byte "\\" then Some (byte "\\")
    else None

-- whether a byte is written with its digits
abbrev pub has_digits : ℕ → Bool
has_digits b = not (is_plain b || (b == byte "\r" || (b == byte "\n" || b == byte "\\")))

-- a byte, if it is
abbrev pub if_digits : ℕ → Option ℕ
if_digits b = if has_digits b then Some b else None

-- the byte that two digits behind `\` stand for
abbrev pub digits_byte : ℕ → ℕ → Option ℕ
digits_byte high low = option_and_then (λ h. option_and_then (λ l. if_digits (16 * h + l)) (lower_value low)) (lower_value high)

-- the text of a byte is whole, if there is one
abbrev pub whole_or : Step → Option ℕ → Step
whole_or other None = other
whole_or other (Some b) = Byte b

-- the next byte of a text behind what has come
abbrev pub step : Begun → ℕ → Step
step Nothing b = if is_plain b then Byte b else if b == byte "\\" then Part Mark else Bad
step Mark c = whole_or (Part (Digit c)) (letter_byte c)
step (Digit high) low = whole_or Bad (digits_byte high low)

-- a byte in front of what follows
abbrev pub with_byte : ℕ → Option (List ℕ) → Option (List ℕ)
with_byte b said = option_map (λ bytes. b ∷ bytes) said

-- what a step says, and what follows it
abbrev pub said_by : Step → (Begun → Option (List ℕ)) → Option (List ℕ)
said_by (Byte b) rest = with_byte b (rest Nothing)
said_by (Part begun) rest = rest begun
said_by Bad rest = None

-- at its end nothing is begun
abbrev pub said_at_end : Begun → Option (List ℕ)
said_at_end Nothing = Some []
said_at_end Mark = None
said_at_end (Digit high) = None

-- the bytes that a text says behind what has come
abbrev pub unescaped_from : List ℕ → Begun → Option (List ℕ)
unescaped_from [] begun = said_at_end begun
unescaped_from (b ∷ text) begun = said_by (step begun b) (λ next. unescaped_from text next)

-- those that a whole text says
abbrev pub unescaped : List ℕ → Option (List ℕ)
unescaped text = unescaped_from text Nothing

-- and a line `text`, which has one at least
abbrev pub text_bytes_of : List ℕ → Option (List ℕ)
text_bytes_of text = if length text == 0 then None else unescaped text

-- ---- inside

-- what stands in front of a place, and the text of what is left of a datagram
abbrev pub text_with : List ℕ → ℕ → List ℕ → List ℕ
text_with room end rest = take end room ++ escaped rest

-- a text whose first byte doesn't stand for itself
abbrev pub BeginsOther : List ℕ → Type 0
BeginsOther text = (0 < length text) × (is_plain (slice_index text 0) ≡ false)
