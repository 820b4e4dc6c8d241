-- How many of the first fields of a list hold all that have a known name, so that no further one is looked at (this project's choice).
use Rattle.std.specs.Prelude.{◌≡◌, ◌⊎◌, ◌+◌, ℕ, nat_lt, List, [], length, drop, get_or, if◌then◌else◌}
use Rattle.sip_message_fields.specs.declared.field_name.FieldName.{FieldName}
use Rattle.sip_message_fields.specs.declared.field.Field.{Field}
use Rattle.sip_message_fields.specs.declared.known_names.KnownName.{KnownName}
use Rattle.sip_message_fields.specs.declared.known_names.KnownName.TheVariants.{Via, From, To, CallId, CSeq, Contact, MaxForwards, ContentLength}
use Rattle.sip_message_fields.specs.declared.known_names.KnownName.TheVariants.{ContentType, ContentEncoding, Subject, Supported, Route}
use Rattle.sip_message_fields.specs.declared.known_names.KnownName.TheVariants.{RecordRoute, Expires, Require, ProxyRequire, Unsupported}
use Rattle.sip_message_fields.specs.declared.known_names.KnownName.TheVariants.{Authorization, ProxyAuthorization, WwwAuthenticate}
use Rattle.sip_message_fields.specs.declared.known_names.KnownName.TheVariants.{ProxyAuthenticate, Warning, MinExpires, Timestamp}
use Rattle.sip_message_fields.specs.KnownName.{field_name_of}
use Rattle.sip_message_fields.specs.Named.{all_named}

-- a number for each known name
abbrev pub place_of : KnownName → ℕ
place_of Via = 0
place_of From = 1
place_of To = 2
place_of CallId = 3
place_of CSeq = 4
place_of Contact = 5
place_of MaxForwards = 6
place_of ContentLength = 7
place_of ContentType = 8
place_of ContentEncoding = 9
place_of Subject = 10
place_of Supported = 11
place_of Route = 12
place_of RecordRoute = 13
place_of Expires = 14
place_of Require = 15
place_of ProxyRequire = 16
place_of Unsupported = 17
place_of Authorization = 18
place_of ProxyAuthorization = 19
place_of WwwAuthenticate = 20
place_of ProxyAuthenticate = 21
place_of Warning = 22
place_of MinExpires = 23
place_of Timestamp = 24

-- the end of a name that the field behind so many has; 255 says that it may stand anywhere
abbrev pub end_behind : ℕ → ℕ
end_behind count = if nat_lt count 254 then count + 1 else 255

-- no field behind an end has a name
abbrev pub IsEnd : ℕ → FieldName → List Field → Type 0
IsEnd end name fields = (end ≡ 255) ⊎ (all_named name (drop end fields) ≡ [])

-- each known name has an end
pub record AreEnds (ends : List ℕ) (fields : List Field) : Type 0 where
  pub sized : length ends ≡ 25
  pub each : (known : KnownName) → IsEnd (get_or ends (place_of known) 0) (field_name_of known) fields
