-- The addresses that a URI in brackets gives whose place is read where it stands.
use Rattle.std.proofs.Common.{◌≡◌, ◌⊎◌, ℕ, Bool, true, false, List, [], Option, Some, None, refl, sym, ap, ◌∙◌, inl, inr}
use Rattle.std.specs.Prelude.{◌||◌, option_map, if◌then◌else◌}
use Rattle.std.specs.Option.{option_and_then, unwrap_or}
use Rattle.sip_uri.specs.Port.{port_value}
use Rattle.sip_uri.specs.declared.uri.Uri.{Uri}
use Rattle.sip_uri.specs.declared.scheme.Scheme.TheVariants as Scheme
use Rattle.sip_message_fields.specs.declared.field.Field.{Field}
use Rattle.sip_message_fields.specs.declared.field_name.FieldName.TheVariants as Name
use Rattle.sip_message_fields.specs.FieldName.{is_same_name}
use Rattle.sip_header.specs.declared.name_addr.NameAddr.{NameAddr}
use Rattle.sip_header.specs.NameAddr.{name_addr_of}
use Rattle.sip_header.specs.Route.{route_of}
use Rattle.sip_header.specs.PlainAddress.{AreOfPlace, IsPlaced}
use Rattle.sip_hops.specs.HostAddress.{is_by_udp, port_or_default, address_at, address_of}
use Rattle.sip_hops.specs.declared.host_address.HostAddress.{HostAddress}
use Rattle.sip_dialog.specs.Addresses.{item_in, address_by, address_in}

default_is : (digits : Option (List ℕ)) (port : Option ℕ) → option_map port_value digits ≡ option_map (λ n. Some n) port
    → port_or_default digits ≡ Some (unwrap_or port 5060)
default_is None None e = refl
default_is None (Some n) e = absurd cc
default_is (Some ds) None e = absurd cc
default_is (Some ds) (Some n) e = cc

by_udp : (uri : Uri) → uri.scheme ≡ Scheme.Sip → AreOfPlace uri.parameters → is_by_udp uri ≡ true
by_udp uri sip (inl none) = rw (sip, none) refl
by_udp uri sip (inr (inl loose)) = rw (sip, loose) refl
by_udp uri sip (inr (inr udp)) = rw (sip, udp) refl

there_is : (rows : List HostAddress) (value host : List ℕ) (port : Option ℕ) (is : IsPlaced value host port)
    → address_by (address_of rows) is.address.uri ≡ address_at rows host (unwrap_or port 5060)
there_is rows value host port is =
    let udp : is_by_udp is.uri ≡ true = by_udp is.uri is.is_sip is.parameters in
    let there : address_of rows is.uri ≡ address_at rows is.uri.host (unwrap_or port 5060) = rw (udp, default_is is.uri.port port is.has_port) refl in
    ap (address_by (address_of rows)) is.has_uri ∙ there ∙ ap (λ (h : List ℕ). address_at rows h (unwrap_or port 5060)) is.has_host

one_of : (c r : Bool) (o p : Option NameAddr) (address : NameAddr) → (c || r) ≡ true → o ≡ Some address → p ≡ Some address
    → (if c then o else if r then p else None) ≡ Some address
one_of true r o p address e first second = first
one_of false true o p address e first second = second
one_of false false o p address e first second = absurd cc

pub address_is : (rows : List HostAddress) (field : Field) (host : List ℕ) (port : Option ℕ)
    → (is_same_name field.name Name.Contact || is_same_name field.name Name.RecordRoute) ≡ true → IsPlaced field.value host port
    → address_at rows host (unwrap_or port 5060) ≡ address_in (address_of rows) field
address_is rows field host port named is =
    let item : item_in field ≡ Some is.address = one_of (is_same_name field.name Name.Contact) (is_same_name field.name Name.RecordRoute) (name_addr_of field.value)
    (route_of field.value) is.address named is.is_address is.is_route in
    sym (ap (option_and_then (λ (i : NameAddr). address_by (address_of rows) i.uri)) item ∙ there_is rows field.value host port is)

neither : (c r : Bool) (o p : Option NameAddr) → (c || r) ≡ false → (if c then o else if r then p else None) ≡ None
neither true r o p e = absurd cc
neither false true o p e = absurd cc
neither false false o p e = refl

pub no_address : (rows : List HostAddress) (field : Field) → (is_same_name field.name Name.Contact || is_same_name field.name Name.RecordRoute) ≡ false
    → None ≡ address_in (address_of rows) field
no_address rows field other =
    sym (ap (option_and_then (λ (i : NameAddr). address_by (address_of rows) i.uri)) (neither (is_same_name field.name Name.Contact)
    (is_same_name field.name Name.RecordRoute) (name_addr_of field.value) (route_of field.value) other))
