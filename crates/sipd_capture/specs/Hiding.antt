-- What is hidden of a datagram: the values of its credentials, and its body. Each byte that is hidden is an `x`, so that lengths stay right.
use Rattle.std.specs.Prelude.{ℕ, ◌==◌, Bool, false, ◌||◌, if◌then◌else◌, List, [], ◌∷◌, ◌++◌, map, codes, Option, None, Some}
use Rattle.std.specs.List.{join_with_byte}
use Rattle.std.specs.Str.{byte, bytes_eq}
use Rattle.sip_text.specs.Cuts.{behind_word, parts_at, word_at}
use Rattle.sip_text.specs.Lists.{is_blank, trimmed}
use Rattle.sip_text.specs.Splits.{split_at_byte}
use Rattle.sip_text.specs.TextLines.{lines_of}
use Rattle.sip_text.specs.Words.{is_same_text, is_token_text}
use Rattle.sipd_capture.specs.declared.hiding.LinePlace.{LinePlace}
use Rattle.sipd_capture.specs.declared.hiding.LinePlace.TheVariants.{Plain, Credentials, Body}

-- ---- bytes

-- a byte of a value that is hidden; quotes, blanks and the CR at a line's end stay, so that the field is still one
abbrev pub is_kept : ℕ → Bool
is_kept b = is_blank b || b == byte "\"" || b == 13

abbrev pub masked : ℕ → ℕ
masked b = if is_kept b then b else byte "x"

-- a byte of a body
abbrev pub crossed : ℕ → ℕ
crossed b = if b == 13 then b else byte "x"

-- ---- credentials (RFC 3261 20.7, 20.28, 25.1)

-- what stands in front of a parameter's `=`, without the scheme
abbrev pub without_scheme : List ℕ → List ℕ
without_scheme text = if is_same_text (word_at text) (codes "Digest") then behind_word text else text

abbrev pub is_named : List ℕ → Bool
is_named front = is_token_text (without_scheme (trimmed front))

-- A parameter keeps its name, and its value is hidden; what is no parameter is hidden whole.
abbrev pub split_hidden : List ℕ → List ℕ → List ℕ → List ℕ
split_hidden piece front value = if is_named front then front ++ byte "=" ∷ map masked value else map masked piece

abbrev pub piece_by : List ℕ → Option (List ℕ × List ℕ) → List ℕ
piece_by piece None = map masked piece
piece_by piece (Some split) = split_hidden piece split.0 split.1

abbrev pub piece_hidden : List ℕ → List ℕ
piece_hidden piece = piece_by piece (split_at_byte 61 piece)

-- a value: what stands between its commas, each hidden so
abbrev pub value_hidden : List ℕ → List ℕ
value_hidden value = join_with_byte 44 (map piece_hidden (parts_at 44 value))

-- ---- lines

abbrev pub is_credentials_name : List ℕ → Bool
is_credentials_name name = is_same_text name (codes "Authorization") || is_same_text name (codes "Proxy-Authorization")

-- a line that begins a field of credentials
abbrev pub credentials_by : Option (List ℕ × List ℕ) → Bool
credentials_by None = false
credentials_by (Some split) = is_credentials_name (trimmed split.0)

abbrev pub is_credentials : List ℕ → Bool
is_credentials line = credentials_by (split_at_byte 58 line)

-- one that goes on with the field in front (RFC 3261 7.3.1)
abbrev pub is_folded : List ℕ → Bool
is_folded [] = false
is_folded (b ∷ bs) = is_blank b

-- the one behind which the body begins
abbrev pub is_end : List ℕ → Bool
is_end line = bytes_eq line [] || bytes_eq line (13 ∷ [])

abbrev pub field_by : List ℕ → Option (List ℕ × List ℕ) → List ℕ
field_by line None = line
field_by line (Some split) = split.0 ++ byte ":" ∷ value_hidden split.1

-- a line that begins a field
abbrev pub field_hidden : List ℕ → List ℕ
field_hidden line = if is_credentials line then field_by line (split_at_byte 58 line) else line

abbrev pub line_hidden : LinePlace → List ℕ → List ℕ
line_hidden Plain line = field_hidden line
line_hidden Credentials line = if is_folded line then map masked line else field_hidden line
line_hidden Body line = map crossed line

-- where the line behind this one stands
abbrev pub head_behind : LinePlace → List ℕ → LinePlace
head_behind place line =
    if is_end line then Body else if is_folded line then place else if is_credentials line then Credentials else Plain

abbrev pub place_behind : LinePlace → List ℕ → LinePlace
place_behind Plain line = head_behind Plain line
place_behind Credentials line = head_behind Credentials line
place_behind Body line = Body

-- ---- a datagram

abbrev pub lines_hidden : LinePlace → List (List ℕ) → List (List ℕ)
lines_hidden place [] = []
lines_hidden place (line ∷ lines) = line_hidden place line ∷ lines_hidden (place_behind place line) lines

abbrev pub hidden_from : LinePlace → List ℕ → List ℕ
hidden_from place bytes = join_with_byte 10 (lines_hidden place (lines_of bytes))

abbrev pub hidden : List ℕ → List ℕ
hidden bytes = hidden_from Plain bytes
