-- Whose password a request gives (RFC 3261 22).
use Rattle.std.specs.Prelude.{ℕ, List, [], ◌∷◌, Option, Some, None}
use Rattle.std.specs.Option.{option_and_then}
use Rattle.std.specs.Result.{result_ok}
use Rattle.sip_header_credentials.specs.declared.credentials.Credentials.{Credentials}
use Rattle.sip_header_credentials.specs.Credentials.{credentials_of}
use Rattle.sip_message.specs.Reading.{reading_of}
use Rattle.sip_message_fields.specs.Values.{values_of}
use Rattle.sip_message_fields.specs.declared.field.Field.{Field}
use Rattle.sip_message_fields.specs.declared.field_name.FieldName.TheVariants.{Authorization, ProxyAuthorization}

-- the name that credentials have
abbrev pub name_in : Option Credentials → Option (List ℕ)
name_in credentials = option_and_then (λ c. c.username) credentials

-- that the value of a field gives
abbrev pub name_of : List ℕ → Option (List ℕ)
name_of value = name_in (credentials_of value)

-- the first of two, if it is there
abbrev pub or_else : Option (List ℕ) → Option (List ℕ) → Option (List ℕ)
or_else None others = others
or_else (Some name) others = Some name

-- the first that values give
abbrev pub first_name : List (List ℕ) → Option (List ℕ)
first_name [] = None
first_name (value ∷ values) = or_else (name_of value) (first_name values)

-- the name that fields give: in Authorization, or else in Proxy-Authorization
abbrev pub name_among : List Field → Option (List ℕ)
name_among fields = or_else (first_name (values_of Authorization fields)) (first_name (values_of ProxyAuthorization fields))

-- that a datagram gives; one that says no message gives none
abbrev pub given_name : List ℕ → Option (List ℕ)
given_name bytes = option_and_then (λ m. name_among m.fields) (result_ok (reading_of bytes))
