-- URIs: their text, and the grammar.
use Rattle.std.specs.Prelude.{◌≡◌, ℕ, Bool, true, ◌&&◌, not, List, [], ◌∷◌, ◌++◌, codes, Option, Some, None}
use Rattle.std.specs.List.{flat_map, list_all, list_any}
use Rattle.std.specs.Str.{byte}
use Rattle.sip_text.specs.Words.{is_same_text}
use Rattle.sip_uri.specs.declared.user.UserInfo.{UserInfo}
use Rattle.sip_uri.specs.declared.parameters.UriParameter.{UriParameter}
use Rattle.sip_uri.specs.declared.headers.UriHeader.{UriHeader}
use Rattle.sip_uri.specs.declared.uri.Uri.{Uri}
use Rattle.sip_uri.specs.Scheme.{scheme_text}
use Rattle.sip_uri.specs.Host.{is_host}
use Rattle.sip_uri.specs.Port.{is_port}
use Rattle.sip_uri.specs.Parts.{is_user, is_password, is_parameter_part, is_header_name, is_header_value}

-- ---- the text of a URI (RFC 3261 19.1.1)

-- a text behind a byte, if there is one
abbrev pub behind_mark : ℕ → Option (List ℕ) → List ℕ
behind_mark mark None = []
behind_mark mark (Some text) = mark ∷ text

-- the user with the password and `@`, if there is one
abbrev pub userinfo_text : Option UserInfo → List ℕ
userinfo_text None = []
userinfo_text (Some info) = info.user ++ behind_mark (byte ":") info.password ++ codes "@"

-- the port behind its `:`, if there is one
abbrev pub port_text : Option (List ℕ) → List ℕ
port_text port = behind_mark (byte ":") port

-- a parameter behind its `;`
abbrev pub parameter_text : UriParameter → List ℕ
parameter_text p = byte ";" ∷ (p.name ++ behind_mark (byte "=") p.value)

-- a header's name, `=` and its value
abbrev pub header_text : UriHeader → List ℕ
header_text h = h.name ++ byte "=" ∷ h.value

-- `?` before the first header, `&` before each other
abbrev pub headers_text : List UriHeader → List ℕ
headers_text [] = []
headers_text (first ∷ others) = byte "?" ∷ (header_text first ++ flat_map (λ h. byte "&" ∷ header_text h) others)

-- what stands behind the scheme's `:`
abbrev pub rest_text : Uri → List ℕ
rest_text u = userinfo_text u.userinfo ++ (u.host ++ (port_text u.port ++ (flat_map parameter_text u.parameters ++ headers_text u.headers)))

-- the text of a URI: its scheme in lower case, all else as it is kept
abbrev pub text_of : Uri → List ℕ
text_of u = scheme_text u.scheme ++ byte ":" ∷ rest_text u

-- ---- the grammar (RFC 3261 25.1: SIP-URI, as this project narrows it)

-- no password, or one of the grammar
abbrev pub is_password_or_none : Option (List ℕ) → Bool
is_password_or_none None = true
is_password_or_none (Some password) = is_password password

-- no user, or one of the grammar with its password
abbrev pub is_userinfo : Option UserInfo → Bool
is_userinfo None = true
is_userinfo (Some info) = is_user info.user && is_password_or_none info.password

-- no port, or one of the grammar
abbrev pub is_port_or_none : Option (List ℕ) → Bool
is_port_or_none None = true
is_port_or_none (Some digits) = is_port digits

-- no value, or one of the grammar
abbrev pub is_value_or_none : Option (List ℕ) → Bool
is_value_or_none None = true
is_value_or_none (Some value) = is_parameter_part value

-- a parameter of the grammar
abbrev pub is_parameter : UriParameter → Bool
is_parameter p = is_parameter_part p.name && is_value_or_none p.value

-- no name stands twice, judged on the text without case
abbrev pub names_differ : List UriParameter → Bool
names_differ [] = true
names_differ (p ∷ ps) = not (list_any (λ q. is_same_text p.name q.name) ps) && names_differ ps

-- a header of the grammar
abbrev pub is_header : UriHeader → Bool
is_header h = is_header_name h.name && is_header_value h.value

-- a URI of the grammar
pub record IsValid (u : Uri) : Type 0 where
  pub userinfo : is_userinfo u.userinfo ≡ true
  pub host : is_host u.host ≡ true
  pub port : is_port_or_none u.port ≡ true
  pub parameters : list_all is_parameter u.parameters ≡ true
  pub names : names_differ u.parameters ≡ true
  pub headers : list_all is_header u.headers ≡ true

-- Bytes write a URI: they are its text with the scheme in any case, and it is of the grammar.
pub record IsWritten (bytes : List ℕ) (u : Uri) : Type 0 where
  pub scheme : List ℕ
  pub in_any_case : is_same_text scheme (scheme_text u.scheme) ≡ true
  pub whole : bytes ≡ scheme ++ byte ":" ∷ rest_text u
  pub valid : IsValid u
