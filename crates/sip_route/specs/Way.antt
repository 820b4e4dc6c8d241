-- Where a request goes once this server's own part of its way is taken off (RFC 3261 16.4).
use Rattle.std.specs.Prelude.{ℕ, Bool, false, ◌&&◌, is_some, if◌then◌else◌, List, [], reverse, codes, Option, None}
use Rattle.std.specs.Option.{option_and_then, option_map_or}
use Rattle.std.specs.Result.{result_ok}
use Rattle.std.specs.List.{list_any, slice_get}
use Rattle.sip_uri.specs.declared.uri.Uri.{Uri}
use Rattle.sip_uri_equality.specs.Equality.{same, says_same_no_case}
use Rattle.sip_uri.specs.Reading.{reading_of}
use Rattle.sip_message_fields.specs.declared.field_name.FieldName.TheVariants as Name
use Rattle.sip_message_fields.specs.declared.field.Field.{Field}
use Rattle.sip_header.specs.forms.declared.message.Start.{Start}
use Rattle.sip_header.specs.forms.declared.message.Start.TheVariants.{Request, Status}
use Rattle.sip_header.specs.forms.declared.message.Message.{Message}
use Rattle.sip_header.specs.declared.name_addr.AnyUri.{AnyUri}
use Rattle.sip_header.specs.declared.name_addr.AnyUri.TheVariants.{Sip, Other}
use Rattle.sip_header.specs.declared.name_addr.NameAddr.{NameAddr}
use Rattle.sip_route.specs.declared.own.Own.{Own}
use Rattle.sip_route.specs.declared.way.Way.{Way}
use Rattle.sip_header.specs.NameAddr.{sip_uri}
use Rattle.sip_route.specs.Own.{is_own_host_port, record_route_uri}
use Rattle.sip_header.specs.Route.{route_of, uri_text}
use Rattle.sip_message_fields.specs.Values.{values_of, without_first, without_last}

-- ---- own places

-- whether a URI has `lr` (RFC 3261 19.1.1), escapes resolved
abbrev pub has_lr : Uri → Bool
has_lr uri = list_any (λ p. says_same_no_case p.name (codes "lr")) uri.parameters

-- whether a URI is the one that this server puts into Record-Route
abbrev pub is_record_route : Own → Uri → Bool
is_record_route own uri = has_lr uri && same uri (record_route_uri own)

-- whether a URI of any scheme names this server
abbrev pub names_own_host_port : Own → AnyUri → Bool
names_own_host_port own (Sip uri) = is_own_host_port own uri
names_own_host_port own (Other text) = false

-- ---- what is left of a Request-URI and fields

-- the first of some values of Route, if it can be read
abbrev pub first_route : List (List ℕ) → Option NameAddr
first_route routes = option_and_then route_of (slice_get routes 0)

-- the last of them, if it can be read
abbrev pub last_route : List (List ℕ) → Option NameAddr
last_route routes = first_route (reverse routes)

-- whether a Request-URI is one that this server put into Record-Route
abbrev pub came_strictly : Own → List ℕ → Bool
came_strictly own uri = option_map_or (is_record_route own) (result_ok (reading_of uri)) false

-- Such a Request-URI is there by a strict router, which put the one that it replaced at the end of Route: the last of the values of
-- Route is to be restored
-- (RFC 3261 16.4).
abbrev pub restored_of : Own → List ℕ → List (List ℕ) → Option NameAddr
restored_of own uri routes = if came_strictly own uri then last_route routes else None

-- the Route among some fields that is to be restored
abbrev pub restored_route : Own → List ℕ → List Field → Option NameAddr
restored_route own uri fields = restored_of own uri (values_of Name.Route fields)

-- the Request-URI: the text of the restored one, or as it came
abbrev pub uri_by : Option NameAddr → List ℕ → List ℕ
uri_by restored uri = option_map_or (λ route. uri_text route.uri) restored uri

-- the Request-URI that is left
abbrev pub uri_left : Own → List ℕ → List Field → List ℕ
uri_left own uri fields = uri_by (restored_route own uri fields) uri

-- the fields without the Route that is restored
abbrev pub without_restored : Own → List ℕ → List Field → List Field
without_restored own uri fields = if is_some (restored_route own uri fields) then without_last Name.Route fields else fields

-- whether the first of some values of Route names this server
abbrev pub begins_with_own : Own → List (List ℕ) → Bool
begins_with_own own routes = option_map_or (λ route. names_own_host_port own route.uri) (first_route routes) false

-- a first Route that names this server is taken off (RFC 3261 16.4)
abbrev pub without_own_route : Own → List Field → List Field
without_own_route own fields = if begins_with_own own (values_of Name.Route fields) then without_first Name.Route fields else fields

-- the fields: without a Route that is restored, and then without this server's own
abbrev pub fields_left : Own → List ℕ → List Field → List Field
fields_left own uri fields = without_own_route own (without_restored own uri fields)

-- ---- the way of a request

-- where a request with a Request-URI and fields goes
abbrev pub way_from : Own → List ℕ → List Field → Way
way_from own uri fields = record { uri = uri_left own uri fields; routes = values_of Name.Route (fields_left own uri fields) }

-- the Request-URI as it came; a response has none
abbrev pub request_uri : Start → List ℕ
request_uri (Request method uri version) = uri
request_uri (Status code reason) = []

-- the Request-URI and the Routes of a request once this server's own part of its way is taken off (RFC 3261 16.4)
abbrev pub way_of : Own → Message → Way
way_of own m = way_from own (request_uri m.start) m.fields

-- the SIP or SIPS URI that a request with this way is for, if its Request-URI is one
abbrev pub request_uri_in : Way → Option Uri
request_uri_in way = result_ok (reading_of way.uri)

-- the SIP or SIPS URI that a request is for, if its Request-URI is one then
abbrev pub request_uri_of : Own → Message → Option Uri
request_uri_of own m = request_uri_in (way_of own m)

-- where a request is to go next: its first Route, else its Request-URI (RFC 3261 16.6 step 6)
abbrev pub next_uri : Way → Option Uri
next_uri way = option_map_or (λ route. sip_uri route.uri) (first_route way.routes) (request_uri_in way)
