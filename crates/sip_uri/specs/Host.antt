-- Hosts, and the port behind one.
use Rattle.std.specs.Prelude.{◌≡◌, ℕ, ◌+◌, Bool, true, false, ◌||◌, ◌&&◌, ◌==◌, not, List, [], ◌∷◌, ◌++◌, length, take, drop, codes, Option, Some}
use Rattle.std.specs.Prelude.{None, option_map, if◌then◌else◌}
use Rattle.std.specs.Option.{option_and_then}
use Rattle.std.specs.List.{list_all, list_any, prefix_len}
use Rattle.std.specs.Str.{byte}
use Rattle.std.specs.Char.{is_ascii_alphanumeric, is_ascii_hexdigit}
use Rattle.sip_text.specs.Lists.{is_nil}
use Rattle.sip_uri.specs.Port.{port_of, port_number}

-- a byte of a host name (RFC 3261 25.1: hostname; this project's profile has `_`, too)
abbrev pub is_host_byte : ℕ → Bool
is_host_byte b = is_ascii_alphanumeric b || list_any (λ c. b == c) (codes "-._")

-- a byte of an address in brackets (RFC 3261 25.1: IPv6address)
abbrev pub is_address_byte : ℕ → Bool
is_address_byte b = is_ascii_hexdigit b || list_any (λ c. b == c) (codes ":.")

-- the rest of an address in brackets: one or more bytes, then the closing bracket
abbrev pub is_address_rest : Bool → List ℕ → Bool
is_address_rest has_begun [] = false
is_address_rest has_begun (b ∷ bs) = if b == byte "]" then has_begun && is_nil bs else is_address_byte b && is_address_rest true bs

-- a host name, or an address in square brackets (RFC 3261 25.1: host)
abbrev pub is_host : List ℕ → Bool
is_host [] = false
is_host (b ∷ bs) = if b == byte "[" then is_address_rest false bs else list_all is_host_byte (b ∷ bs)

-- ---- the host and the port that a text writes

-- whether a text begins with `[`
abbrev pub begins_bracket : List ℕ → Bool
begins_bracket [] = false
begins_bracket (b ∷ bs) = b == byte "["

-- whether a byte is another
abbrev pub is_not : ℕ → ℕ → Bool
is_not mark b = not (b == mark)

-- how long the host at the front is: up to the bracket that closes it, else up to a `:` (RFC 3261 25.1: hostport)
abbrev pub host_length : List ℕ → ℕ
host_length text = if begins_bracket text then prefix_len (is_not (byte "]")) text + 1 else prefix_len (is_not (byte ":")) text

-- the host at the front, and what follows it
abbrev pub host_of : List ℕ → Option (List ℕ × List ℕ)
host_of text =
    let host = take (host_length text) text in
    if is_host host then Some (host, drop (host_length text) text) else None

-- a host, and perhaps a port behind it (RFC 3261 25.1: hostport)
abbrev pub place_of : List ℕ → Option (List ℕ × Option (List ℕ))
place_of text = option_and_then (λ host. option_map (λ port. (host.0, port)) (port_of host.1)) (host_of text)

-- the same with the port by its number
abbrev pub host_port_of : List ℕ → Option (List ℕ × Option ℕ)
host_port_of text = option_map (λ place. (place.0, port_number place.1)) (place_of text)

-- ---- a place at the front of a text

-- a byte of a host name, or the `:` before a port
abbrev pub is_place_byte : ℕ → Bool
is_place_byte b = is_host_byte b || b == byte ":"

-- A text begins with a place, which is written by such bytes, and a rest follows it.
pub record IsPlaceAt (text host : List ℕ) (port : Option (List ℕ)) (rest : List ℕ) : Type 0 where
  pub front : List ℕ
  pub whole : text ≡ front ++ rest
  pub plain : list_all is_place_byte front ≡ true
  pub is_place : place_of front ≡ Some (host, port)

-- A text begins with one or more bytes of a host name, and a rest follows them.
pub record IsNameAt (text name rest : List ℕ) : Type 0 where
  pub whole : text ≡ name ++ rest
  pub bytes : list_all is_host_byte name ≡ true
  pub some : (length name == 0) ≡ false
