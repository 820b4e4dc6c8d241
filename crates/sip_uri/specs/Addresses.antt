-- IPv4 addresses and ports as text.
use Rattle.std.specs.Prelude.{ℕ, ◌+◌, ◌*◌, ◌&&◌, ◌==◌, nat_le, not, if◌then◌else◌, List, [], ◌∷◌, ◌++◌, length, slice_index, decimal, codes}
use Rattle.std.specs.Prelude.{Option, Some, None, option_map}
use Rattle.std.specs.Option.{option_and_then}
use Rattle.std.specs.Str.{byte}
use Rattle.std.specs.Char.{is_ascii_digit, digit_value}
use Rattle.sip_text.specs.Words.{decimal_of}
use Rattle.sip_text.specs.Lists.{onto}
use Rattle.sip_text.specs.Splits.{split_at_byte}
use Rattle.sip_text.specs.Numbers.{has_leading_zero, plain_port_of}
use Rattle.sip_uri.specs.declared.addr.Addr.{Addr}

-- four decimal numbers joined by dots (RFC 3261 25.1, IPv4address)
abbrev pub ip_text : List ℕ → List ℕ
ip_text ip = decimal (slice_index ip 0) ++ codes "." ++ decimal (slice_index ip 1) ++ codes "." ++ decimal (slice_index ip 2) ++ codes "."
    ++ decimal (slice_index ip 3)

-- ---- the address that a text writes: `ip_text_is_read` says that it is the one with that text

-- what stands between the dots of a text
abbrev pub between_dots : List ℕ → List (List ℕ)
between_dots [] = [] ∷ []
between_dots (b ∷ bs) = if b == byte "." then [] ∷ between_dots bs else onto (b ∷ []) (between_dots bs)

-- a number of an address: 0 to 255, without leading zeros
abbrev pub ip_number : List ℕ → Option ℕ
ip_number digits = option_and_then (λ n. if nat_le n 255 && not (has_leading_zero digits) then Some n else None) (decimal_of digits)

-- the four numbers of a dotted address
abbrev pub ip_numbers : List (List ℕ) → Option (List ℕ)
ip_numbers [] = Some []
ip_numbers (piece ∷ pieces) = option_and_then (λ n. option_map (λ ns. n ∷ ns) (ip_numbers pieces)) (ip_number piece)

-- the address that a text writes: four numbers between dots (RFC 3261 25.1, IPv4address, without leading zeros in this project's profile)
abbrev pub ip_of : List ℕ → Option (List ℕ)
ip_of text = option_and_then (λ ip. if length ip == 4 then Some ip else None) (ip_numbers (between_dots text))

-- ---- the same number by number

-- a number of an address with one more digit behind it
abbrev pub one_more : Option ℕ → ℕ → Option ℕ
one_more None b = if is_ascii_digit b then Some (digit_value b) else None
one_more (Some n) b = if is_ascii_digit b && not (n == 0) && nat_le (n * 10 + digit_value b) 255 then Some (n * 10 + digit_value b) else None

-- the number before a text's first dot, and what follows the dot
abbrev pub number_before : List ℕ → Option (List ℕ × List ℕ) → Option (ℕ × Option (List ℕ))
number_before text None = option_map (λ n. (n, None)) (ip_number text)
number_before text (Some parts) = option_map (λ n. (n, Some parts.1)) (ip_number parts.0)

-- the number at the front of a text, up to its first dot, and what follows that dot, if there is one
abbrev pub number_at : List ℕ → Option (ℕ × Option (List ℕ))
number_at text = number_before text (split_at_byte (byte ".") text)

-- ---- an address with a port

-- `IP:PORT`
abbrev pub addr_text : Addr → List ℕ
addr_text a = ip_text a.ip ++ codes ":" ++ decimal a.port

-- the address that a text `IP:PORT` writes: its port is 1 to 65535
abbrev pub addr_of : List ℕ → Option Addr
addr_of text =
    option_and_then (λ parts. option_and_then (λ ip. option_map (λ port. record { ip = ip; port = port }) (plain_port_of parts.1)) (ip_of parts.0))
    (split_at_byte (byte ":") text)
