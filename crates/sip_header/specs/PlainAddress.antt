-- Addresses in the form that most have.
use Rattle.std.specs.Prelude.{◌≡◌, ◌⊎◌, ℕ, List, [], ◌∷◌, ◌++◌, codes, Option, Some, option_map}
use Rattle.std.specs.Str.{byte}
use Rattle.sip_uri.specs.Port.{port_value}
use Rattle.sip_uri.specs.PlainPlace.{loose_routing, udp_transport}
use Rattle.sip_uri.specs.declared.parameters.UriParameter.{UriParameter}
use Rattle.sip_uri.specs.declared.scheme.Scheme.TheVariants as Scheme
use Rattle.sip_uri.specs.declared.uri.Uri.{Uri}
use Rattle.sip_header.specs.declared.name_addr.AnyUri.TheVariants.{Sip}
use Rattle.sip_header.specs.declared.name_addr.NameAddr.{NameAddr}
use Rattle.sip_header.specs.NameAddr.{name_addr_of}
use Rattle.sip_header.specs.Route.{route_of}
use Rattle.sip_header.specs.declared.contact_item.ContactItem.TheVariants.{Address}
use Rattle.sip_header.specs.ContactItem.{contact_of}

-- A value is an address in brackets, whose URI is a `sip` one with this host and this number of a port, if it has one, and with no parameters but,
-- perhaps, `lr`; behind the brackets nothing stands (RFC 3261 20.10, 20.30, 20.34).
pub record IsBracketedHostPort (value host : List ℕ) (port : Option ℕ) : Type 0 where
  pub address : NameAddr
  pub uri : Uri
  pub is_address : name_addr_of value ≡ Some address
  pub is_route : route_of value ≡ Some address
  pub is_contact : contact_of value ≡ Some (Address address)
  pub no_parameters : address.parameters ≡ []
  pub has_uri : address.uri ≡ Sip uri
  pub is_sip : uri.scheme ≡ Scheme.Sip
  pub has_host : uri.host ≡ host
  pub has_port : option_map port_value uri.port ≡ option_map (λ n. Some n) port
  pub parameters : (uri.parameters ≡ []) ⊎ (uri.parameters ≡ loose_routing)

-- the parameters of a URI that say no more than that it leads by UDP: none, `lr`, or `transport=udp`
abbrev pub AreOfPlace : List UriParameter → Type 0
AreOfPlace parameters = (parameters ≡ []) ⊎ ((parameters ≡ loose_routing) ⊎ (parameters ≡ udp_transport))

-- one of these, as it is written behind a URI, ends it with its `>`, and this follows
abbrev pub IsPlaceEnd : List ℕ → List ℕ → Type 0
IsPlaceEnd end rest = (end ≡ byte ">" ∷ rest) ⊎ ((end ≡ codes ";lr" ++ byte ">" ∷ rest) ⊎ (end ≡ codes ";transport=udp" ++ byte ">" ∷ rest))

-- A value is an address in brackets, whose URI is a `sip` one with this host and this number of a port, if it has one, and with no parameters but,
-- perhaps, `lr` or `transport=udp`; header parameters may stand behind the brackets (RFC 3261 20.10, 20.30).
pub record IsPlaced (value host : List ℕ) (port : Option ℕ) : Type 0 where
  pub address : NameAddr
  pub uri : Uri
  pub is_address : name_addr_of value ≡ Some address
  pub is_route : route_of value ≡ Some address
  pub is_contact : contact_of value ≡ Some (Address address)
  pub has_uri : address.uri ≡ Sip uri
  pub is_sip : uri.scheme ≡ Scheme.Sip
  pub has_host : uri.host ≡ host
  pub has_port : option_map port_value uri.port ≡ option_map (λ n. Some n) port
  pub parameters : AreOfPlace uri.parameters
