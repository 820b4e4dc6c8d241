-- The names of fields (RFC 3261 7.3.1, 7.3.3, 20).
use Rattle.std.specs.Prelude.{ℕ, Bool, true, false, ◌||◌, List, [], ◌∷◌, ◌++◌, codes, if◌then◌else◌}
use Rattle.sip_text.specs.Words.{is_same_text}
use Rattle.sip_message_fields.specs.declared.field_name.FieldName.{FieldName}
use Rattle.sip_message_fields.specs.declared.field_name.FieldName.TheVariants.{Via, From, To, CallId, CSeq, Contact, MaxForwards}
use Rattle.sip_message_fields.specs.declared.field_name.FieldName.TheVariants.{ContentLength, ContentType, ContentEncoding, Subject}
use Rattle.sip_message_fields.specs.declared.field_name.FieldName.TheVariants.{Supported, Route, RecordRoute, Expires, Require}
use Rattle.sip_message_fields.specs.declared.field_name.FieldName.TheVariants.{ProxyRequire, Unsupported, Authorization, ProxyAuthorization}
use Rattle.sip_message_fields.specs.declared.field_name.FieldName.TheVariants.{WwwAuthenticate, ProxyAuthenticate, Warning, MinExpires}
use Rattle.sip_message_fields.specs.declared.field_name.FieldName.TheVariants.{Timestamp, Other}

-- a name in its full spelling (RFC 3261 20); another name as it was written
abbrev pub spelling : FieldName → List ℕ
spelling Via = codes "Via"
spelling From = codes "From"
spelling To = codes "To"
spelling CallId = codes "Call-ID"
spelling CSeq = codes "CSeq"
spelling Contact = codes "Contact"
spelling MaxForwards = codes "Max-Forwards"
spelling ContentLength = codes "Content-Length"
spelling ContentType = codes "Content-Type"
spelling ContentEncoding = codes "Content-Encoding"
spelling Subject = codes "Subject"
spelling Supported = codes "Supported"
spelling Route = codes "Route"
spelling RecordRoute = codes "Record-Route"
spelling Expires = codes "Expires"
spelling Require = codes "Require"
spelling ProxyRequire = codes "Proxy-Require"
spelling Unsupported = codes "Unsupported"
spelling Authorization = codes "Authorization"
spelling ProxyAuthorization = codes "Proxy-Authorization"
spelling WwwAuthenticate = codes "WWW-Authenticate"
spelling ProxyAuthenticate = codes "Proxy-Authenticate"
spelling Warning = codes "Warning"
spelling MinExpires = codes "Min-Expires"
spelling Timestamp = codes "Timestamp"
spelling (Other name) = name

-- a known name and its compact form (RFC 3261 7.3.3), empty where it has none
pub record Known : Type 0 where
  pub name : FieldName
  pub compact : List ℕ

-- the names that have a compact form (RFC 3261 7.3.3)
abbrev pub compact_names : List Known
compact_names =
    record { name = Via; compact = codes "v" }
    ∷ record { name = From; compact = codes "f" }
    ∷ record { name = To; compact = codes "t" }
    ∷ record { name = CallId; compact = codes "i" }
    ∷ record { name = Contact; compact = codes "m" }
    ∷ record { name = ContentLength; compact = codes "l" }
    ∷ record { name = ContentType; compact = codes "c" }
    ∷ record { name = ContentEncoding; compact = codes "e" }
    ∷ record { name = Subject; compact = codes "s" }
    ∷ record { name = Supported; compact = codes "k" }
    ∷ []

-- the names of credentials, challenges, warnings and times
abbrev pub credential_names : List Known
credential_names =
    record { name = Authorization; compact = codes "" }
    ∷ record { name = ProxyAuthorization; compact = codes "" }
    ∷ record { name = WwwAuthenticate; compact = codes "" }
    ∷ record { name = ProxyAuthenticate; compact = codes "" }
    ∷ record { name = Warning; compact = codes "" }
    ∷ record { name = MinExpires; compact = codes "" }
    ∷ record { name = Timestamp; compact = codes "" }
    ∷ []

-- the other names without a compact form, and these
abbrev pub plain_names : List Known
plain_names =
    record { name = CSeq; compact = codes "" }
    ∷ record { name = MaxForwards; compact = codes "" }
    ∷ record { name = Route; compact = codes "" }
    ∷ record { name = RecordRoute; compact = codes "" }
    ∷ record { name = Expires; compact = codes "" }
    ∷ record { name = Require; compact = codes "" }
    ∷ record { name = ProxyRequire; compact = codes "" }
    ∷ record { name = Unsupported; compact = codes "" }
    ∷ credential_names

-- the names that this project knows
abbrev pub known_names : List Known
known_names = compact_names ++ plain_names

-- whether a name is this one, or its compact form, without case (RFC 3261 7.3.1, 7.3.3)
abbrev pub is_named : List ℕ → List ℕ → List ℕ → Bool
is_named full compact name = is_same_text name full || is_same_text name compact

-- the first of some known names that is written so
abbrev pub named_in : List Known → List ℕ → FieldName
named_in [] name = Other name
named_in (k ∷ others) name = if is_named (spelling k.name) k.compact name then k.name else named_in others name

-- the name that is written so (RFC 3261 7.3.1, 7.3.3)
abbrev pub name_of : List ℕ → FieldName
name_of name = named_in known_names name

-- whether it is Content-Length (RFC 3261 20.14)
abbrev pub is_length : FieldName → Bool
is_length ContentLength = true
is_length name = false

-- whether its value is a list that is cut at its commas (RFC 3261 7.3.1; which names: this project's profile)
abbrev pub is_list : FieldName → Bool
is_list Via = true
is_list Route = true
is_list RecordRoute = true
is_list Contact = true
is_list Require = true
is_list ProxyRequire = true
is_list name = false

-- whether two names are the same, without case (RFC 3261 7.3.1)
abbrev pub is_same_name : FieldName → FieldName → Bool
is_same_name left right = is_same_text (spelling left) (spelling right)
