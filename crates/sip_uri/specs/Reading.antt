-- The URI that bytes write, or why they write none.
use Rattle.std.specs.Prelude.{◌≡◌, ◌⊎◌, ℕ, Bool, ◌&&◌, ◌==◌, not, List, [], ◌∷◌, Option, Some, None, option_map, Result, Ok, Err, if◌then◌else◌}
use Rattle.std.specs.Option.{ok_or, option_and_then}
use Rattle.std.specs.Str.{byte}
use Rattle.sip_text.specs.Lists.{onto}
use Rattle.sip_text.specs.Splits.{split_at_byte}
use Rattle.sip_uri.specs.declared.error.UriError.{UriError}
use Rattle.sip_uri.specs.declared.error.UriError.TheVariants.{NoMemory, Syntax}
use Rattle.sip_uri.specs.declared.scheme.Scheme.{Scheme}
use Rattle.sip_uri.specs.declared.user.UserInfo.{UserInfo}
use Rattle.sip_uri.specs.declared.parameters.UriParameter.{UriParameter}
use Rattle.sip_uri.specs.declared.headers.UriHeader.{UriHeader}
use Rattle.sip_uri.specs.declared.uri.Uri.{Uri}
use Rattle.sip_uri.specs.Scheme.{scheme_of}
use Rattle.sip_uri.specs.Host.{place_of}
use Rattle.sip_uri.specs.Uri.{is_userinfo, is_parameter, names_differ, is_header}

infixl 10 ◌>>=◌
abbrev pub ◌>>=◌ : {A B : Type 0} → Result A UriError → (A → Result B UriError) → Result B UriError
(Ok x) >>= f = f x
(Err e) >>= f = Err e

-- What a function returned, seen by view, is what reading gives, unless memory ran out.
abbrev pub Gives : {X Y : Type 0} → (X → Y) → Result X UriError → Result Y UriError → Type 0
Gives view (Ok x) reading = reading ≡ Ok (view x)
Gives view (Err e) reading = (e ≡ NoMemory) ⊎ (reading ≡ Err e)

-- what stands before a split and what follows it; the whole text, and nothing behind it, where it isn't split
abbrev pub first_part : List ℕ → Option (List ℕ × List ℕ) → List ℕ × Option (List ℕ)
first_part text None = (text, None)
first_part text (Some x) = (x.0, Some x.1)

-- what stands before the first of a byte, and what follows it, if that byte stands there
abbrev pub part_before : ℕ → List ℕ → List ℕ × Option (List ℕ)
part_before mark text = first_part text (split_at_byte mark text)

-- what stands between the bytes of one kind: one part more than there are of them
abbrev pub parts_between : ℕ → List ℕ → List (List ℕ)
parts_between mark [] = [] ∷ []
parts_between mark (b ∷ bs) = if b == mark then [] ∷ parts_between mark bs else onto (b ∷ []) (parts_between mark bs)

-- one thing before others, if it and they were read
abbrev pub with_first : {X : Type 0} → Option X → Option (List X) → Option (List X)
with_first first others = option_and_then (λ x. option_map (λ xs. x ∷ xs) others) first

-- what each text says, if each says something
abbrev pub each_of : {X : Type 0} → (List ℕ → Option X) → List (List ℕ) → Option (List X)
each_of says [] = Some []
each_of says (text ∷ texts) = with_first (says text) (each_of says texts)

-- ---- the user

-- the user and the password that two texts are
abbrev pub userinfo_from : List ℕ × Option (List ℕ) → UserInfo
userinfo_from x = record { user = x.0; password = x.1 }

-- these, if they are of the grammar (RFC 3261 25.1: user, password)
abbrev pub valid_userinfo : UserInfo → Option UserInfo
valid_userinfo info = if is_userinfo (Some info) then Some info else None

-- a user, and behind a first `:` a password (RFC 3261 25.1: userinfo)
abbrev pub userinfo_of : List ℕ → Option UserInfo
userinfo_of text = valid_userinfo (userinfo_from (part_before (byte ":") text))

-- a user and what follows its `@`
abbrev pub user_from : List ℕ → Option (List ℕ × List ℕ) → Result (Option UserInfo × List ℕ) UriError
user_from text None = Ok (None, text)
user_from text (Some x) = do
  info ← ok_or (userinfo_of x.0) Syntax
  Ok (Some info, x.1)

-- the user before the first `@` if there is one, and what follows. It is looked for first, since a user may have `;` and `?` (RFC
-- 3261 25.1: userinfo).
abbrev pub user_of : List ℕ → Result (Option UserInfo × List ℕ) UriError
user_of text = user_from text (split_at_byte (byte "@") text)

-- ---- the parameters

-- the parameter that two texts are
abbrev pub parameter_from : List ℕ × Option (List ℕ) → UriParameter
parameter_from x = record { name = x.0; value = x.1 }

-- it, if it is of the grammar (RFC 3261 25.1: other-param, as which each parameter is read)
abbrev pub valid_parameter : UriParameter → Option UriParameter
valid_parameter p = if is_parameter p then Some p else None

-- a name, and behind a first `=` a value (RFC 3261 25.1: uri-parameter)
abbrev pub parameter_of : List ℕ → Option UriParameter
parameter_of text = valid_parameter (parameter_from (part_before (byte "=") text))

-- no name may stand twice (RFC 3261 19.1.1)
abbrev pub if_different : List UriParameter → Option (List UriParameter)
if_different ps = if names_differ ps then Some ps else None

-- the parameters between the `;` of a text (RFC 3261 25.1: uri-parameters)
abbrev pub listed_parameters : List ℕ → Option (List UriParameter)
listed_parameters text = each_of parameter_of (parts_between (byte ";") text)

-- the same where no name stands twice
abbrev pub parameters_of : List ℕ → Option (List UriParameter)
parameters_of text = option_and_then if_different (listed_parameters text)

-- the parameters behind a first `;`, if one stands there
abbrev pub parameters_behind : Option (List ℕ) → Option (List UriParameter)
parameters_behind None = Some []
parameters_behind (Some text) = parameters_of text

-- ---- the headers

-- the header that two texts are
abbrev pub header_from : List ℕ × List ℕ → UriHeader
header_from x = record { name = x.0; value = x.1 }

-- it, if it is of the grammar (RFC 3261 25.1: hname, hvalue)
abbrev pub valid_header : UriHeader → Option UriHeader
valid_header h = if is_header h then Some h else None

-- a name, `=` and a value, which may be empty (RFC 3261 25.1: header)
abbrev pub header_of : List ℕ → Option UriHeader
header_of text = option_and_then (λ x. valid_header (header_from x)) (split_at_byte (byte "=") text)

-- the headers between the `&` of a text (RFC 3261 25.1: headers)
abbrev pub headers_of : List ℕ → Option (List UriHeader)
headers_of text = each_of header_of (parts_between (byte "&") text)

-- the headers behind a first `?`, if one stands there
abbrev pub headers_behind : Option (List ℕ) → Option (List UriHeader)
headers_behind None = Some []
headers_behind (Some text) = headers_of text

-- ---- the whole

-- neither a `;` nor a `?`, which end host and port
abbrev pub is_of_place : ℕ → Bool
is_of_place b = not (b == byte ";") && not (b == byte "?")

-- host, port and parameters: what stands behind a user, up to a first `?`
abbrev pub before_headers : List ℕ → List ℕ
before_headers text = (part_before (byte "?") text).0

-- the text of the headers, if a `?` stands there
abbrev pub header_text_of : List ℕ → Option (List ℕ)
header_text_of text = (part_before (byte "?") text).1

-- host and port: what stands behind a user, up to a first `;` that isn't of the headers
abbrev pub before_parameters : List ℕ → List ℕ
before_parameters text = (part_before (byte ";") (before_headers text)).0

-- the text of the parameters, if such a `;` stands there
abbrev pub parameter_text_of : List ℕ → Option (List ℕ)
parameter_text_of text = (part_before (byte ";") (before_headers text)).1

-- these are the texts of host and port, parameters and headers
abbrev pub AreTexts : List ℕ → List ℕ → Option (List ℕ) → Option (List ℕ) → Type 0
AreTexts text place parameters headers = (place ≡ before_parameters text) × (parameters ≡ parameter_text_of text) × (headers ≡ header_text_of text)

-- A text begins with host and port, and has these parameters and headers behind them.
pub record HasPlace (text host : List ℕ) (port parameters headers : Option (List ℕ)) : Type 0 where
  pub place : Some (host, port) ≡ place_of (before_parameters text)
  pub of_parameters : parameters ≡ parameter_text_of text
  pub of_headers : headers ≡ header_text_of text

-- the URI of a text behind its scheme (RFC 3261 25.1: SIP-URI)
unfoldable pub rest_of : Scheme → List ℕ → Result Uri UriError
rest_of scheme text = do
  user ← user_of text
  place ← ok_or (place_of (before_parameters user.1)) Syntax
  parameters ← ok_or (parameters_behind (parameter_text_of user.1)) Syntax
  headers ← ok_or (headers_behind (header_text_of user.1)) Syntax
  Ok (record { scheme = scheme; userinfo = user.0; host = place.0; port = place.1; parameters = parameters; headers = headers })

-- what bytes write: a scheme, `:`, and the rest (RFC 3261 19.1.1)
unfoldable pub reading_of : List ℕ → Result Uri UriError
reading_of bytes = do
  parts ← ok_or (split_at_byte (byte ":") bytes) Syntax
  scheme ← scheme_of parts.0
  rest_of scheme parts.1
