-- The addresses that a dialog holds (this project's profile).
use Rattle.std.specs.Prelude.{Bool, ◌&&◌, ◌||◌, ◌==◌, nat_le, List, [], ◌∷◌, ◌++◌, length, Option, None, if◌then◌else◌}
use Rattle.std.specs.Option.{option_and_then}
use Rattle.std.specs.List.{list_any, filter_map}
use Rattle.std.specs.Str.{bytes_eq}
use Rattle.sip_uri.specs.declared.uri.Uri.{Uri}
use Rattle.sip_message_fields.specs.declared.field.Field.{Field}
use Rattle.sip_message_fields.specs.declared.field_name.FieldName.TheVariants as Name
use Rattle.sip_message_fields.specs.FieldName.{is_same_name}
use Rattle.sip_header.specs.declared.name_addr.AnyUri.{AnyUri}
use Rattle.sip_header.specs.declared.name_addr.AnyUri.TheVariants.{Sip, Other}
use Rattle.sip_header.specs.declared.name_addr.NameAddr.{NameAddr}
use Rattle.sip_header.specs.NameAddr.{name_addr_of}
use Rattle.sip_header.specs.Route.{route_of}
use Rattle.sip_uri.specs.declared.addr.Addr.{Addr}

-- whether two addresses are one
abbrev pub is_same_addr : Addr → Addr → Bool
is_same_addr a b = bytes_eq a.ip b.ip && a.port == b.port

-- one more address goes last, unless it is held or 16 are
abbrev pub with_address : List Addr → Addr → List Addr
with_address held a = if list_any (is_same_addr a) held || nat_le 16 (length held) then held else held ++ a ∷ []

-- some more addresses, in their order
abbrev pub with_addresses : List Addr → List Addr → List Addr
with_addresses held [] = held
with_addresses held (a ∷ more) = with_addresses (with_address held a) more

-- ---- what a message tells

-- the address of a SIP URI; another has none
abbrev pub address_by : (Uri → Option Addr) → AnyUri → Option Addr
address_by address_of (Sip uri) = address_of uri
address_by address_of (Other text) = None

-- what a Contact or a Record-Route says; a Record-Route has brackets (RFC 3261 20.10, 20.30)
abbrev pub item_in : Field → Option NameAddr
item_in field =
    if is_same_name field.name Name.Contact then name_addr_of field.value
    else if is_same_name field.name Name.RecordRoute then route_of field.value
    else None

-- the address that a Contact or a Record-Route gives, by what gives a URI its address
abbrev pub address_in : (Uri → Option Addr) → Field → Option Addr
address_in address_of field = option_and_then (λ item. address_by address_of item.uri) (item_in field)

-- the addresses that the fields of a message give, in their order (RFC 3261 12.1.1, 12.2)
abbrev pub addresses_in : (Uri → Option Addr) → List Field → List Addr
addresses_in address_of fields = filter_map (address_in address_of) fields
