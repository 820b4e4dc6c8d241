-- SIP URIs in the form that most have.
use Rattle.std.specs.Prelude.{◌≡◌, ◌⊎◌, ℕ, Bool, true, ◌||◌, ◌==◌, List, [], ◌∷◌, ◌++◌, codes, Option, Some, None, option_map, Ok}
use Rattle.std.specs.Str.{byte}
use Rattle.std.specs.List.{list_all}
use Rattle.sip_uri.specs.Host.{is_host_byte, is_place_byte}
use Rattle.sip_uri.specs.Port.{port_value}
use Rattle.sip_uri.specs.declared.user.UserInfo.{UserInfo}
use Rattle.sip_uri.specs.declared.parameters.UriParameter.{UriParameter}
use Rattle.sip_uri.specs.declared.scheme.Scheme.TheVariants as Scheme
use Rattle.sip_uri.specs.declared.uri.Uri.{Uri}
use Rattle.sip_uri.specs.Reading.{user_of, reading_of}

-- a text behind a scheme has a user, or none, and this follows it
pub record HasUser (text rest : List ℕ) : Type 0 where
  pub info : Option UserInfo
  pub is_user : user_of text ≡ Ok (info, rest)

-- the parameter `lr`, alone (RFC 3261 19.1.1)
abbrev pub loose_routing : List UriParameter
loose_routing = record { name = codes "lr"; value = None } ∷ []

-- the parameter `transport=udp`, alone (RFC 3261 19.1.1)
abbrev pub udp_transport : List UriParameter
udp_transport = record { name = codes "transport"; value = Some (codes "udp") } ∷ []

-- A text is a `sip` URI with this host and this number of a port, if it has one, whose parameters are none, or `lr` alone (RFC 3261 19.1.1).
pub record IsPlain (text host : List ℕ) (port : Option ℕ) : Type 0 where
  pub uri : Uri
  pub is_read : reading_of text ≡ Ok uri
  pub is_sip : uri.scheme ≡ Scheme.Sip
  pub has_host : uri.host ≡ host
  pub has_port : option_map port_value uri.port ≡ option_map (λ n. Some n) port
  pub parameters : (uri.parameters ≡ []) ⊎ (uri.parameters ≡ loose_routing)

-- a byte of a URI without parameters and headers, whose user is of bytes of a host name
abbrev pub is_plain_byte : ℕ → Bool
is_plain_byte b = is_place_byte b || b == byte "@"

-- A text begins with a `sip` URI that has this host and this number of a port, if it has one, and this follows it. Alone it has no parameters,
-- and with `;lr` or `;transport=udp` behind it that one (RFC 3261 19.1.1).
pub record IsUriAt (text host : List ℕ) (port : Option ℕ) (rest : List ℕ) : Type 0 where
  pub front : List ℕ
  pub whole : text ≡ front ++ rest
  pub plain : list_all is_plain_byte front ≡ true
  pub info : Option UserInfo
  pub digits : Option (List ℕ)
  pub numbered : option_map port_value digits ≡ option_map (λ n. Some n) port
  pub alone : reading_of front ≡ Ok (record { scheme = Scheme.Sip; userinfo = info; host = host; port = digits; parameters = []; headers = [] })
  pub loose : reading_of (front ++ codes ";lr") ≡ Ok (record {
    scheme = Scheme.Sip;
    userinfo = info;
    host = host;
    port = digits;
    parameters = loose_routing;
    headers = [];
  })
  pub by_udp : reading_of (front ++ codes ";transport=udp") ≡ Ok (record {
    scheme = Scheme.Sip;
    userinfo = info;
    host = host;
    port = digits;
    parameters = udp_transport;
    headers = [];
  })

-- a user with its `@`, if there is one
abbrev pub user_front : List ℕ → List ℕ
user_front [] = []
user_front (b ∷ bs) = (b ∷ bs) ++ codes "@"

-- the user without a password, if there is one
abbrev pub info_of : List ℕ → Option UserInfo
info_of [] = None
info_of (b ∷ bs) = Some (record { user = b ∷ bs; password = None })

-- A text begins with a `sip` URI that has this user, if it isn't empty, this host and this number of a port, if it has one, and this follows it.
pub record IsUriOf (text user host : List ℕ) (port : Option ℕ) (rest : List ℕ) : Type 0 where
  pub at : IsUriAt text host port rest
  pub plain : list_all is_host_byte user ≡ true
  pub after : List ℕ
  pub whole : at.front ≡ codes "sip:" ++ (user_front user ++ (host ++ after))
  pub named : at.info ≡ info_of user
