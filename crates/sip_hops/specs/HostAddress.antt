-- Where a request for a URI goes (this project's profile: a table in place of RFC 3263).
use Rattle.std.specs.Prelude.{ℕ, Bool, true, false, ◌&&◌, ◌||◌, ◌==◌, not, if◌then◌else◌, find, List, codes, Option, Some, None, option_map}
use Rattle.std.specs.Option.{option_and_then}
use Rattle.std.specs.List.{list_any}
use Rattle.sip_text.specs.Words.{is_same_text}
use Rattle.sip_uri.specs.declared.scheme.Scheme.{Scheme}
use Rattle.sip_uri.specs.declared.scheme.Scheme.TheVariants.{Sip, Sips}
use Rattle.sip_uri.specs.declared.parameters.UriParameter.{UriParameter}
use Rattle.sip_uri.specs.declared.uri.Uri.{Uri}
use Rattle.sip_uri.specs.Port.{port_value}
use Rattle.sip_uri_equality.specs.Equality.{says_same_no_case}
use Rattle.sip_uri.specs.declared.addr.Addr.{Addr}
use Rattle.sip_hops.specs.declared.host_address.HostAddress.{HostAddress}
use Rattle.sip_uri.specs.Addresses.{ip_of}

-- whether a transport is udp, in any case, escapes resolved
abbrev pub is_udp : Option (List ℕ) → Bool
is_udp None = false
is_udp (Some value) = says_same_no_case value (codes "udp")

-- whether a parameter asks for another way than UDP to the host: `maddr`, or a `transport` other than udp. Escapes in names are resolved.
abbrev pub leads_elsewhere : UriParameter → Bool
leads_elsewhere p = says_same_no_case p.name (codes "maddr") || (says_same_no_case p.name (codes "transport") && not (is_udp p.value))

-- whether a scheme is `sip`
abbrev pub is_sip : Scheme → Bool
is_sip Sip = true
is_sip Sips = false

-- whether a URI may have an address: `sips` ones and those that ask for another way have none
abbrev pub is_by_udp : Uri → Bool
is_by_udp u = is_sip u.scheme && not (list_any leads_elsewhere u.parameters)

-- the number of a port, 5060 where none is written (RFC 3261 19.1.2)
abbrev pub port_or_default : Option (List ℕ) → Option ℕ
port_or_default None = Some 5060
port_or_default (Some digits) = port_value digits

-- whether a row is for this host, compared without case, and this port
abbrev pub is_row_for : List ℕ → ℕ → HostAddress → Bool
is_row_for host port row = is_same_text row.host host && row.port == port

-- a dotted IPv4 address is itself; any other host is looked up
abbrev pub address_from : List HostAddress → List ℕ → ℕ → Option (List ℕ) → Option Addr
address_from rows host port (Some ip) = Some (record { ip = ip; port = port })
address_from rows host port None = option_map (λ row. row.address) (find (is_row_for host port) rows)

-- the address of a host and a port
abbrev pub address_at : List HostAddress → List ℕ → ℕ → Option Addr
address_at rows host port = address_from rows host port (ip_of host)

-- the address of a URI, by its host and its port
abbrev pub address_of : List HostAddress → Uri → Option Addr
address_of rows u = if is_by_udp u then option_and_then (address_at rows u.host) (port_or_default u.port) else None
