-- What a request claims by its credentials, and whether an answer says that their nonce alone was wrong (RFC 3261 22.1 to 22.3; RFC 2617 3.2).
use Rattle.std.specs.Prelude.{ℕ, nat_eq, Bool, false, if◌then◌else◌, List, [], ◌∷◌, codes, Option, None, Some}
use Rattle.std.specs.List.{ends_with, list_any}
use Rattle.std.specs.Option.{option_and_then, option_map_or}
use Rattle.sip_message_fields.specs.declared.field.Field.{Field}
use Rattle.sip_message_fields.specs.declared.field_name.FieldName.TheVariants as Name
use Rattle.sip_message_fields.specs.FieldName.{is_same_name}
use Rattle.sip_message_fields.specs.Values.{values_of}
use Rattle.sip_message_form.specs.declared.message.Start.{Start}
use Rattle.sip_message_form.specs.declared.message.Start.TheVariants.{Request, Status}
use Rattle.sip_message_form.specs.declared.message.Message.{Message}
use Rattle.sip_header_credentials.specs.declared.credentials.Credentials.{Credentials}
use Rattle.sip_header_credentials.specs.Credentials.{credentials_of, is_realm}
use Rattle.sip_auth.specs.Proof.{credentials_field}
use Rattle.sip_event.specs.declared.packet.Packet.{Packet}
use Rattle.sip_days.specs.Calls.{first_of, said}

-- ---- credentials

-- the user's name that credentials have, if they have one, and are for a realm
abbrev pub claimed : List ℕ → Credentials → Option (Option (List ℕ))
claimed realm c = if is_realm realm c.realm then Some c.username else None

-- the same of those that a value says; a value that isn't well-formed says none (RFC 3261 22.3)
abbrev pub given_by : List ℕ → List ℕ → Option (Option (List ℕ))
given_by realm value = option_and_then (claimed realm) (credentials_of value)

-- of the first value that says some
abbrev pub given_among : List ℕ → List (List ℕ) → Option (Option (List ℕ))
given_among realm [] = None
given_among realm (value ∷ values) = first_of (given_by realm value) (given_among realm values)

-- of a request, in its field for credentials: Authorization of a REGISTER, Proxy-Authorization of any other (RFC 3261 22.2, 22.3)
abbrev pub given_with : List ℕ → List Field → Start → Option (Option (List ℕ))
given_with realm fields (Request method uri version) = given_among realm (values_of (credentials_field method) fields)
given_with realm fields (Status code reason) = None

-- Whether bytes say a request with credentials for a realm; and the user's name that these have, if they have one.
abbrev pub given_in : List ℕ → List ℕ → Option (Option (List ℕ))
given_in realm bytes = option_and_then (λ (m : Message). given_with realm m.fields m.start) (said bytes)

-- ---- answers

-- a challenge of a registrar or a proxy which says that the response was right, and its nonce alone wrong (RFC 2617 3.2.1, stale)
abbrev pub is_stale : Field → Bool
is_stale field =
    if is_same_name field.name Name.WwwAuthenticate then ends_with nat_eq field.value (codes ", stale=true")
    else if is_same_name field.name Name.ProxyAuthenticate then ends_with nat_eq field.value (codes ", stale=true")
    else false

abbrev pub says_stale : List ℕ → Bool
says_stale bytes = option_map_or (λ (m : Message). list_any is_stale m.fields) (said bytes) false

-- whether one of some packets says so
abbrev pub answers_stale : List Packet → Bool
answers_stale packets = list_any (λ (p : Packet). says_stale p.bytes) packets
