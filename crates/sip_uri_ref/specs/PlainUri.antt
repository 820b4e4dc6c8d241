-- SIP URIs of the plainest form, which stay where they were read.
use Rattle.std.specs.Prelude.{◌≡◌, ℕ, ◌+◌, true, ◌==◌, if◌then◌else◌, List, [], ◌++◌, length, codes, Option, Some, None, option_map, Result, Ok, Err}
use Rattle.std.specs.List.{list_all}
use Rattle.sip_uri.specs.Host.{is_host_byte}
use Rattle.sip_uri.specs.Port.{port_value, port_number}
use Rattle.sip_uri.specs.declared.error.UriError.{UriError}
use Rattle.sip_uri.specs.declared.scheme.Scheme.TheVariants as Scheme
use Rattle.sip_uri.specs.declared.uri.Uri.{Uri}
use Rattle.sip_uri.specs.Reading.{reading_of}
use Rattle.sip_uri.specs.PlainPlace.{user_front, info_of, IsUriAt}

-- the URI that was read, or one that names nothing
abbrev pub uri_or_nowhere : Result Uri UriError → Uri
uri_or_nowhere (Ok uri) = uri
uri_or_nowhere (Err e) = record { scheme = Scheme.Sip; userinfo = None; host = []; port = None; parameters = []; headers = [] }

-- the URI that a text writes
abbrev pub uri_said : List ℕ → Uri
uri_said text = uri_or_nowhere (reading_of text)

-- where the host of a `sip` URI begins whose user has so many bytes, or that has none: behind `sip:`, and behind the `@`
abbrev pub host_begins : ℕ → ℕ
host_begins user = if user == 0 then 4 else user + 5

-- A `sip` URI without parameters and headers that has this user, of bytes of a host name, or none where that is empty, this host and these digits.
abbrev pub bare_uri : List ℕ → List ℕ → Option (List ℕ) → Uri
bare_uri user host digits = record { scheme = Scheme.Sip; userinfo = info_of user; host = host; port = digits; parameters = []; headers = [] }

-- A text is such a URI, whose user and whose host have so many bytes.
pub record IsPlainText (text : List ℕ) (user host : ℕ) (port : Option ℕ) : Type 0 where
  pub name : List ℕ
  pub place : List ℕ
  pub after : List ℕ
  pub digits : Option (List ℕ)
  pub plain : list_all is_host_byte name ≡ true
  pub whole : text ≡ codes "sip:" ++ (user_front name ++ (place ++ after))
  pub user_length : user ≡ length name
  pub host_length : host ≡ length place
  pub numbered : option_map port_value digits ≡ option_map (λ n. Some n) port
  pub reads : reading_of text ≡ Ok (bare_uri name place digits)

-- A text begins with the plain text of a URI, and this follows it.
pub record IsRefAt (text : List ℕ) (uri : Uri) (rest : List ℕ) : Type 0 where
  pub at : IsUriAt text uri.host (port_number uri.port) rest
  pub is : reading_of at.front ≡ Ok uri

-- A URI is a `sip` one without parameters and headers, whose port, if it has one, is a number.
pub record IsBare (uri : Uri) : Type 0 where
  pub user : List ℕ
  pub numbered : option_map port_value uri.port ≡ option_map (λ n. Some n) (port_number uri.port)
  pub is : uri ≡ bare_uri user uri.host uri.port
