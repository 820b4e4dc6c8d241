-- The Via of a request that was received.
use Rattle.std.specs.Prelude.{◌≡◌, ℕ, Bool, ◌==◌, ◌||◌, not, if◌then◌else◌, List, [], ◌∷◌, ◌++◌, decimal, codes, Option, Some, None}
use Rattle.std.specs.List.{take_while, flat_map, list_any}
use Rattle.std.specs.Str.{byte, bytes_eq}
use Rattle.sip_text.specs.Words.{is_same_text}
use Rattle.sip_text.specs.Lists.{trimmed}
use Rattle.sip_route.specs.header.declared.via.Via.{Via}
use Rattle.sip_text.specs.Cuts.{parts_at}
use Rattle.sip_route.specs.header.Via.{via_of}
use Rattle.sip_uri.specs.declared.addr.Addr.{Addr}
use Rattle.sip_uri.specs.Addresses.{ip_text}

-- what stands before the first `=`, everything where there is none
abbrev pub before_equals : List ℕ → List ℕ
before_equals piece = take_while (λ b. not (b == byte "=")) piece

-- whether a piece is the parameter of this name, with or without a value (RFC 3261 25.1, generic-param)
abbrev pub is_parameter : List ℕ → List ℕ → Bool
is_parameter name piece = is_same_text (trimmed (before_equals piece)) name

-- A parameter with its semicolon as it goes on: no `received` that came, the source's port in an `rport`, and any other as it stands (RFC 3581 4).
abbrev pub edited : ℕ → List ℕ → List ℕ
edited port piece =
    if is_parameter (codes "received") piece then []
    else if is_parameter (codes "rport") piece then codes ";rport=" ++ decimal port
    else codes ";" ++ piece

-- whether the client asks for its port (RFC 3581 3)
abbrev pub asks_for_port : List (List ℕ) → Bool
asks_for_port parameters = list_any (is_parameter (codes "rport")) parameters

-- the source's address, wanted where the client asks for its port, or where its sent-by names another host (RFC 3261 18.2.1, RFC 3581 4)
abbrev pub source_of : List ℕ → Addr → Bool → List ℕ
source_of host from asks = if asks || not (bytes_eq host (ip_text from.ip)) then codes ";received=" ++ ip_text from.ip else []

-- a Via whose sent-by has this host: what stands before its parameters, then these, then the source's address
abbrev pub with_source : List ℕ → Addr → List (List ℕ) → List ℕ
with_source host from [] = []
with_source host from (sent_by ∷ parameters) = sent_by ++ flat_map (edited from.port) parameters ++ source_of host from (asks_for_port parameters)

-- the same of a Via by its reading
abbrev pub received_as : Option Via → List ℕ → Addr → List ℕ
received_as None value from = value
received_as (Some via) value from = with_source via.host from (parts_at (byte ";") value)

-- the value of the top Via of a request that came from an address; one that can't be read stays (RFC 3261 18.2.1, RFC 3581 4)
abbrev pub received_via : List ℕ → Addr → List ℕ
received_via value from = received_as (via_of value) value from

-- a front of a Via's value stands before the `rport` that ends it, and goes on as it stands
pub record IsBeforePort (value front : List ℕ) : Type 0 where
  pub edited : (from : Addr) → received_via value from ≡ front ++ codes ";rport=" ++ decimal from.port ++ (codes ";received=" ++ ip_text from.ip)
