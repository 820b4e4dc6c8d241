-- The names of fields that this project knows, by themselves.
use Rattle.std.specs.Prelude.{◌≡◌, ℕ, Bool, true, List, Option, Some, None, option_map}
use Rattle.std.specs.Option.{unwrap_or}
use Rattle.sip_message_fields.specs.declared.field_name.FieldName.{FieldName}
use Rattle.sip_message_fields.specs.declared.field_name.FieldName.TheVariants as Name
use Rattle.sip_message_fields.specs.FieldName.{name_of}
use Rattle.sip_message_fields.specs.declared.known_names.KnownName.{KnownName}
use Rattle.sip_message_fields.specs.declared.known_names.KnownName.TheVariants.{Via, From, To, CallId, CSeq, Contact, MaxForwards, ContentLength}
use Rattle.sip_message_fields.specs.declared.known_names.KnownName.TheVariants.{ContentType, ContentEncoding, Subject, Supported, Route}
use Rattle.sip_message_fields.specs.declared.known_names.KnownName.TheVariants.{RecordRoute, Expires, Require, ProxyRequire, Unsupported}
use Rattle.sip_message_fields.specs.declared.known_names.KnownName.TheVariants.{Authorization, ProxyAuthorization, WwwAuthenticate}
use Rattle.sip_message_fields.specs.declared.known_names.KnownName.TheVariants.{ProxyAuthenticate, Warning, MinExpires, Timestamp}

-- the name of a field that it is
abbrev pub field_name_of : KnownName → FieldName
field_name_of Via = Name.Via
field_name_of From = Name.From
field_name_of To = Name.To
field_name_of CallId = Name.CallId
field_name_of CSeq = Name.CSeq
field_name_of Contact = Name.Contact
field_name_of MaxForwards = Name.MaxForwards
field_name_of ContentLength = Name.ContentLength
field_name_of ContentType = Name.ContentType
field_name_of ContentEncoding = Name.ContentEncoding
field_name_of Subject = Name.Subject
field_name_of Supported = Name.Supported
field_name_of Route = Name.Route
field_name_of RecordRoute = Name.RecordRoute
field_name_of Expires = Name.Expires
field_name_of Require = Name.Require
field_name_of ProxyRequire = Name.ProxyRequire
field_name_of Unsupported = Name.Unsupported
field_name_of Authorization = Name.Authorization
field_name_of ProxyAuthorization = Name.ProxyAuthorization
field_name_of WwwAuthenticate = Name.WwwAuthenticate
field_name_of ProxyAuthenticate = Name.ProxyAuthenticate
field_name_of Warning = Name.Warning
field_name_of MinExpires = Name.MinExpires
field_name_of Timestamp = Name.Timestamp

-- which of them a name of a field is
abbrev pub known_of : FieldName → Option KnownName
known_of Name.Via = Some Via
known_of Name.From = Some From
known_of Name.To = Some To
known_of Name.CallId = Some CallId
known_of Name.CSeq = Some CSeq
known_of Name.Contact = Some Contact
known_of Name.MaxForwards = Some MaxForwards
known_of Name.ContentLength = Some ContentLength
known_of Name.ContentType = Some ContentType
known_of Name.ContentEncoding = Some ContentEncoding
known_of Name.Subject = Some Subject
known_of Name.Supported = Some Supported
known_of Name.Route = Some Route
known_of Name.RecordRoute = Some RecordRoute
known_of Name.Expires = Some Expires
known_of Name.Require = Some Require
known_of Name.ProxyRequire = Some ProxyRequire
known_of Name.Unsupported = Some Unsupported
known_of Name.Authorization = Some Authorization
known_of Name.ProxyAuthorization = Some ProxyAuthorization
known_of Name.WwwAuthenticate = Some WwwAuthenticate
known_of Name.ProxyAuthenticate = Some ProxyAuthenticate
known_of Name.Warning = Some Warning
known_of Name.MinExpires = Some MinExpires
known_of Name.Timestamp = Some Timestamp
known_of (Name.Other name) = None

-- the name of a field by which of them it is, and otherwise as it was written
abbrev pub name_seen : Option KnownName → List ℕ → FieldName
name_seen known written = unwrap_or (option_map field_name_of known) (Name.Other written)

-- how a name that was written is read where it was told to be none of those that are known; else as it was written
abbrev pub told_as : Bool → Option KnownName → List ℕ → FieldName
told_as true None written = name_of written
told_as told known written = Name.Other written

-- where it was told whether a name that was written is known, one that isn't said to be is none of those that are
abbrev pub IsTold : Bool → Option KnownName → List ℕ → Type 0
IsTold told known written = told_as told known written ≡ Name.Other written
