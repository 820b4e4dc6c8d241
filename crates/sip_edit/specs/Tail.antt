-- A request as it goes to a target in two texts: a head, which is each target's own, and a tail, which is the same for all (RFC 3261 16.6).
use Rattle.std.specs.Prelude.{ℕ, Bool, if◌then◌else◌, List, [], ◌++◌, length, decimal, codes}
use Rattle.std.specs.List.{flat_map}
use Rattle.sip_message_fields.specs.declared.field.Field.{Field}
use Rattle.sip_message_fields.specs.declared.field_name.FieldName.TheVariants as Name
use Rattle.sip_message_form.specs.declared.message.Message.{Message}
use Rattle.sip_message_form.specs.declared.message.Start.{Start}
use Rattle.sip_message_form.specs.Text.{start_text, field_text}
use Rattle.sip_route.specs.declared.own.Own.{Own}
use Rattle.sip_route.specs.declared.routes_kept.RoutesKept.{RoutesKept}
use Rattle.sip_edit.specs.Onward.{with_uri, record_route_field}
use Rattle.sip_route.specs.header.declared.max_forwards.MaxForwards.{MaxForwards}
use Rattle.sip_route.specs.header.declared.max_forwards.MaxForwards.TheVariants.{Absent, Hops, Malformed}
use Rattle.sip_route.specs.header.MaxForwards.{max_forwards_of}
use Rattle.sip_edit.specs.OwnRequests.{seventy}
use Rattle.sip_edit.specs.Lowering.{hops_left, default_hops, fields_on, fields_by}

-- fields, the length of the body, the empty line, the body (RFC 3261 7)
abbrev pub behind : List Field → List ℕ → List ℕ
behind fields body = flat_map field_text fields ++ codes "Content-Length: " ++ decimal (length body) ++ codes "\r\n\r\n" ++ body

-- the tail of a request of which these Routes are left, from a server of this realm
abbrev pub tail_of : RoutesKept → List ℕ → Message → List ℕ
tail_of routes realm m = behind (fields_by routes realm m.fields) m.body

-- of such a tail what these fields become, which stand behind the others of the request
abbrev pub others_behind : RoutesKept → List ℕ → Message → List Field → List ℕ
others_behind routes realm m others =
    behind (fields_on (hops_left (max_forwards_of m.fields)) routes realm others ++ default_hops (max_forwards_of m.fields)) m.body

-- this server's Record-Route, where it gets one
abbrev pub recorded : Own → Bool → List ℕ
recorded own records_route = if records_route then field_text (record_route_field own) else []

-- the head: the first line with the target's Request-URI, this server's Via of a value, its Record-Route
abbrev pub head_of : Own → Bool → List ℕ → List ℕ → Start → List ℕ
head_of own records_route uri via start =
    start_text (with_uri uri start) ++ codes "\r\n" ++ field_text (record { name = Name.Via; value = via }) ++ recorded own records_route

-- the line of a Max-Forwards, where a request gets one
abbrev pub default_text : MaxForwards → List ℕ
default_text Absent = field_text seventy
default_text (Hops n) = []
default_text Malformed = []
