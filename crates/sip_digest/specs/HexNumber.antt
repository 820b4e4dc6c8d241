-- Hexadecimal numbers in credentials.
use Rattle.std.specs.Prelude.{ℕ, ◌^◌, ◌<◌, Bool, if◌then◌else◌, List, Option, Some, None}
use Rattle.std.specs.List.{list_all}
use Rattle.std.specs.Char.{is_digit}
use Rattle.std.specs.Str.Parse.{digits_value}

-- whether a byte is a hexadecimal digit, in either case (RFC 2617 3.2.2, nc-value)
abbrev pub is_hex_digit : ℕ → Bool
is_hex_digit b = is_digit b 16

-- the number that hexadecimal digits write, in either case; none of other text
abbrev pub hex_number_of : List ℕ → Option ℕ
hex_number_of digits = if list_all is_hex_digit digits then Some (digits_value 16 digits) else None

-- a number of so many hexadecimal digits
pub record IsBelowDigits (number digits : ℕ) : Type 0 where
  pub below : number < 16 ^ digits
