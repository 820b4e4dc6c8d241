-- Numbers in text: decimal without leading zeros, and hexadecimal.
use Rattle.std.specs.Prelude.{ℕ, ◌==◌, nat_lt, Bool, false, Option, Some, None, List, [], ◌∷◌, length, if◌then◌else◌}
use Rattle.std.specs.Option.{option_and_then}
use Rattle.std.specs.Int.{to_be_bytes, w64}
use Rattle.std.specs.Str.{byte}
use Rattle.std.specs.Result.{result_ok}
use Rattle.hex.specs.Hex.{decode_of, encode_lower}
use Rattle.sip_text.specs.Words.{decimal_of}

-- two digits or more, the first of them 0
abbrev pub has_leading_zero : List ℕ → Bool
has_leading_zero [] = false
has_leading_zero (d ∷ []) = false
has_leading_zero (d ∷ e ∷ ds) = d == byte "0"

-- a decimal number without leading zeros, below 2 ^ 64
abbrev pub plain_decimal_of : List ℕ → Option ℕ
plain_decimal_of digits = if has_leading_zero digits then None else decimal_of digits

-- a number, if it is below a limit
abbrev pub under : ℕ → ℕ → Option ℕ
under limit number = if nat_lt number limit then Some number else None

-- such a number below a limit
abbrev pub plain_decimal_below : ℕ → List ℕ → Option ℕ
plain_decimal_below limit digits = option_and_then (under limit) (plain_decimal_of digits)

-- a port, 1 to 65535, without leading zeros
abbrev pub plain_port_of : List ℕ → Option ℕ
plain_port_of digits = option_and_then (λ port. if port == 0 then None else Some port) (plain_decimal_below 65536 digits)

-- the bytes that two hexadecimal digits each write, in either case, at least one
abbrev pub hex_bytes_of : List ℕ → Option (List ℕ)
hex_bytes_of digits = if length digits == 0 then None else result_ok (decode_of digits)

-- a number below 2 ^ 64 in 16 hexadecimal digits in lower case
abbrev pub hex_text : ℕ → List ℕ
hex_text number = encode_lower (to_be_bytes w64 number)
