-- Tokens and numbers (RFC 3261 25.1), and text without case (RFC 3261 7.3.1).
use Rattle.std.specs.Prelude.{ℕ, ◌^◌, Bool, false, ◌&&◌, ◌||◌, ◌==◌, nat_lt, if◌then◌else◌, List, [], ◌∷◌, length, drop, take_while, map}
use Rattle.std.specs.Prelude.{Option, Some, None, codes}
use Rattle.std.specs.List.{list_all, list_any}
use Rattle.std.specs.Str.{bytes_eq}
use Rattle.std.specs.Char.{is_ascii_alphanumeric, is_ascii_digit, to_ascii_lowercase}
use Rattle.std.specs.Str.Parse.{digits_value}

-- a byte of a token: a letter, a digit or one of ten marks (RFC 3261 25.1, token)
abbrev pub is_token_byte : ℕ → Bool
is_token_byte b = is_ascii_alphanumeric b || list_any (λ c. b == c) (codes "-.!%*_+`'~")

-- whether the bytes are a token: one or more of its bytes (RFC 3261 25.1)
abbrev pub is_token_text : List ℕ → Bool
is_token_text [] = false
is_token_text (b ∷ bs) = list_all is_token_byte (b ∷ bs)

-- the bytes of a token at the front of a text, as many as there are
abbrev pub token_at : List ℕ → List ℕ
token_at text = take_while is_token_byte text

-- what follows them
abbrev pub behind_token : List ℕ → List ℕ
behind_token text = drop (length (token_at text)) text

-- the number that one or more decimal digits write, below 2 ^ 64 (RFC 3261 25.1, 1*DIGIT; the limit is
-- this project's profile)
abbrev pub decimal_of : List ℕ → Option ℕ
decimal_of [] = None
decimal_of (d ∷ ds) =
    let number = digits_value 10 (d ∷ ds) in
    if list_all is_ascii_digit (d ∷ ds) && nat_lt number (2 ^ 64) then Some number else None

-- with each capital letter as a small one
abbrev pub without_case : List ℕ → List ℕ
without_case bytes = map to_ascii_lowercase bytes

-- whether two texts are equal without case (RFC 3261 7.3.1)
abbrev pub is_same_text : List ℕ → List ℕ → Bool
is_same_text left right = bytes_eq (without_case left) (without_case right)
