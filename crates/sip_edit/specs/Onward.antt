-- A request as it goes on to a target (RFC 3261 16.6).
use Rattle.std.specs.Prelude.{ℕ, ◌-◌, Bool, false, ◌&&◌, not, if◌then◌else◌, List, [], ◌∷◌, ◌++◌, filter, decimal, codes}
use Rattle.std.specs.Option.{option_map_or}
use Rattle.std.specs.Result.{result_ok}
use Rattle.sip_uri.specs.Uri.{text_of}
use Rattle.sip_uri.specs.Reading.{reading_of}
use Rattle.sip_message_fields.specs.declared.field_name.FieldName.{FieldName}
use Rattle.sip_message_fields.specs.declared.field_name.FieldName.TheVariants as Name
use Rattle.sip_message_fields.specs.declared.field.Field.{Field}
use Rattle.sip_message_form.specs.declared.message.Start.{Start}
use Rattle.sip_message_form.specs.declared.message.Start.TheVariants.{Request, Status}
use Rattle.sip_message_form.specs.declared.message.Message.{Message}
use Rattle.sip_message_fields.specs.FieldName.{is_same_name}
use Rattle.sip_route.specs.header.declared.max_forwards.MaxForwards.{MaxForwards}
use Rattle.sip_route.specs.header.declared.max_forwards.MaxForwards.TheVariants.{Absent, Hops, Malformed}
use Rattle.sip_route.specs.declared.own.Own.{Own}
use Rattle.sip_header_credentials.specs.Credentials.{credentials_of, is_realm}
use Rattle.sip_route.specs.header.MaxForwards.{max_forwards_of}
use Rattle.sip_route.specs.Own.{record_route_uri}
use Rattle.sip_route.specs.Way.{request_uri, fields_left, way_of}
use Rattle.sip_edit.specs.OwnRequests.{seventy}
use Rattle.sip_edit.specs.OwnVia.{own_via}

-- ---- Request-URI (step 2)

-- a Request-URI in place of another
abbrev pub with_uri : List ℕ → Start → Start
with_uri new (Request method uri version) = Request method new version
with_uri new (Status code reason) = Status code reason

-- a SIP or SIPS URI with its scheme in lower case; another as it is
abbrev pub written_uri : List ℕ → List ℕ
written_uri uri = option_map_or (λ u. text_of u) (result_ok (reading_of uri)) uri

-- the Request-URI of a request whose target is its own Request-URI, without this server's own part of the way (RFC 3261 16.4, 16.5)
abbrev pub onward_uri : Own → Message → List ℕ
onward_uri own m = written_uri (way_of own m).uri

-- ---- Max-Forwards (step 3)

-- the first field of a name with another value
abbrev pub with_value : FieldName → List ℕ → List Field → List Field
with_value name value [] = []
with_value name value (field ∷ fields) = if is_same_name field.name name then record field { value = value } ∷ fields else field
    ∷ with_value name value fields

-- one hop less, in its place; where none is said, 70 goes last; a malformed one stays
abbrev pub lowered : MaxForwards → List Field → List Field
lowered Absent fields = fields ++ seventy ∷ []
lowered (Hops n) fields = with_value Name.MaxForwards (decimal (n - 1)) fields
lowered Malformed fields = fields

-- ---- credentials (RFC 3261 22.3)

-- whether a field has well-formed Digest credentials for a proxy of this realm
abbrev pub is_for_realm : List ℕ → Field → Bool
is_for_realm realm field =
    is_same_name field.name Name.ProxyAuthorization && option_map_or (λ c. is_realm realm c.realm) (credentials_of field.value) false

-- without the credentials that were for this server
abbrev pub without_credentials : List ℕ → List Field → List Field
without_credentials realm fields = filter (λ field. not (is_for_realm realm field)) fields

-- ---- the whole

-- the fields behind this server's Via
abbrev pub onward_fields : Own → List ℕ → Message → List Field
onward_fields own realm m = lowered (max_forwards_of m.fields) (without_credentials realm (fields_left own (request_uri m.start) m.fields))

-- A request as it goes on to a Request-URI, with this server's Via of a value on top of what is the same for every target.
abbrev pub to_target : List ℕ → List ℕ → Message → Message
to_target uri via base =
    record { start = with_uri uri base.start; fields = record { name = Name.Via; value = via } ∷ base.fields; body = base.body }

-- A request as it goes on to a Request-URI: without this server's own Routes (RFC 3261 16.4), with one hop less, without the
-- credentials for its realm, and with
-- its Via of a branch on top (16.6 steps 1 to 3, 8; 22.3).
abbrev pub onward_of : Own → List ℕ → List ℕ → List ℕ → Message → Message
onward_of own realm uri branch m = to_target uri (own_via own branch) (record m { fields = onward_fields own realm m })

-- ---- Record-Route (step 4)

-- this server's Record-Route (RFC 3261 20.30)
abbrev pub record_route_field : Own → Field
record_route_field own = record { name = Name.RecordRoute; value = codes "<" ++ text_of (record_route_uri own) ++ codes ">" }

-- behind the first field
abbrev pub put_second : Field → List Field → List Field
put_second field [] = field ∷ []
put_second field (first ∷ others) = first ∷ field ∷ others

-- with this server's Record-Route behind its Via (RFC 3261 16.6 step 4; the place is this project's)
abbrev pub with_record_route : Own → Message → Message
with_record_route own m = record m { fields = put_second (record_route_field own) m.fields }

-- what is the same of a request for every target: its fields as they go on, behind this server's Record-Route if it gets one
abbrev pub onward_base : Own → List ℕ → Bool → Message → Message
onward_base own realm records_route m =
    record m { fields = if records_route then record_route_field own ∷ onward_fields own realm m else onward_fields own realm m }
