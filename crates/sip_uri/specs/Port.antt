-- Ports.
use Rattle.std.specs.Prelude.{ℕ, Bool, ◌&&◌, ◌==◌, nat_le, List, [], ◌∷◌, Option, Some, None, if◌then◌else◌}
use Rattle.std.specs.Option.{option_and_then, is_some}
use Rattle.std.specs.Str.{byte}
use Rattle.sip_text.specs.Words.{decimal_of}

-- a number, if it may be a port
abbrev pub in_port_range : ℕ → Option ℕ
in_port_range n = if nat_le 1 n && nat_le n 65535 then Some n else None

-- the number of a port, 1 to 65535; leading zeros are read (this project's profile of RFC 3261 25.1: port)
abbrev pub port_value : List ℕ → Option ℕ
port_value digits = option_and_then in_port_range (decimal_of digits)

-- the digits of a port
abbrev pub is_port : List ℕ → Bool
is_port digits = is_some (port_value digits)

-- the number of the port, if one is written
abbrev pub port_number : Option (List ℕ) → Option ℕ
port_number port = option_and_then port_value port

-- the port of a text that has nothing else (RFC 3261 25.1: hostport)
abbrev pub port_of : List ℕ → Option (Option (List ℕ))
port_of [] = Some None
port_of (b ∷ digits) = if b == byte ":" && is_port digits then Some (Some digits) else None
