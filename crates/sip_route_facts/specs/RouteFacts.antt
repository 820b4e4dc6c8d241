-- What of a request decides which of its Routes are left, whichever server asks (RFC 3261 16.4).
use Rattle.std.specs.Prelude.{ℕ, ◌-◌, Bool, false, ◌&&◌, ◌==◌, is_some, if◌then◌else◌, List, [], ◌∷◌, length, codes, decimal, Option, Some, None}
use Rattle.std.specs.Option.{option_and_then, option_map_or, unwrap_or}
use Rattle.std.specs.Result.{result_ok}
use Rattle.sip_uri_equality.specs.Equality.{same, says_same_no_case, both_or_none}
use Rattle.sip_uri.specs.Port.{port_number}
use Rattle.sip_uri.specs.declared.scheme.Scheme.TheVariants as Scheme
use Rattle.sip_uri.specs.declared.uri.Uri.{Uri}
use Rattle.sip_uri.specs.Reading.{reading_of}
use Rattle.sip_message_fields.specs.declared.field_name.FieldName.TheVariants as Name
use Rattle.sip_message_fields.specs.Values.{values_of}
use Rattle.sip_message_form.specs.declared.message.Message.{Message}
use Rattle.sip_header.specs.declared.name_addr.AnyUri.{AnyUri}
use Rattle.sip_header.specs.declared.name_addr.AnyUri.TheVariants.{Sip, Other}
use Rattle.sip_route.specs.declared.own.Own.{Own}
use Rattle.sip_route.specs.declared.routes_kept.RoutesKept.{RoutesKept}
use Rattle.sip_route.specs.Own.{is_own_host}
use Rattle.sip_route.specs.Way.{has_lr, first_route, last_route, request_uri}
use Rattle.sip_route.specs.Routes.{all_but_last}
use Rattle.sip_route_facts.specs.declared.route_facts.HostPort.{HostPort}
use Rattle.sip_route_facts.specs.declared.route_facts.RecordedHostPort.{RecordedHostPort}
use Rattle.sip_route_facts.specs.declared.route_facts.RouteFacts.{RouteFacts}

-- ---- the first Route

-- where a SIP or SIPS URI leads: its host, and the number of its port, 5060 where none is written
abbrev pub host_port_in : AnyUri → Option HostPort
host_port_in (Sip uri) = Some (record { host = uri.host; port = unwrap_or (port_number uri.port) 5060 })
host_port_in (Other text) = None

-- where the first of some values of Route leads
abbrev pub first_host_port : List (List ℕ) → Option HostPort
first_host_port routes = option_and_then (λ route. host_port_in route.uri) (first_route routes)

-- whether a place is a server's own (RFC 3261 16.4)
abbrev pub is_own : Own → HostPort → Bool
is_own own host_port = is_own_host own host_port.host && host_port.port == own.port

-- ---- the Request-URI

-- the URI that a server at a host and a port puts into Record-Route (RFC 3261 16.6 step 4)
abbrev pub route_at : List ℕ → Option (List ℕ) → Uri
route_at host port =
    record {
      scheme = Scheme.Sip;
      userinfo = None;
      host = host;
      port = port;
      parameters = record { name = codes "lr"; value = None } ∷ [];
      headers = [];
    }

-- whether a URI is the one that the server at its own host and port puts into Record-Route
abbrev pub is_recorded : Uri → Bool
is_recorded uri = has_lr uri && same uri (route_at uri.host uri.port)

-- where it leads then, and where the first Route but the last one does
abbrev pub recorded_in : List (List ℕ) → Uri → Option RecordedHostPort
recorded_in routes uri = if is_recorded uri then Some (record {
  host = uri.host;
  port = uri.port;
  first = first_host_port (all_but_last routes);
}) else None

-- the same of a Request-URI, where a last Route can take its place
abbrev pub recorded_of : List ℕ → List (List ℕ) → Option RecordedHostPort
recorded_of uri routes = if is_some (last_route routes) then option_and_then (recorded_in routes) (result_ok (reading_of uri)) else None

-- whether it is what this server put into Record-Route
abbrev pub is_own_record : Own → RecordedHostPort → Bool
is_own_record own host_port = says_same_no_case host_port.host own.host && both_or_none says_same_no_case host_port.port (Some (decimal own.port))

-- ---- of a request

-- what decides, of a Request-URI and the values of Route
abbrev pub facts_of : List ℕ → List (List ℕ) → RouteFacts
facts_of uri routes = record { recorded = recorded_of uri routes; first = first_host_port routes; count = length routes }

-- of so many Routes all stay, without a first one that is the server's own
abbrev pub kept_from : Own → Option HostPort → ℕ → RoutesKept
kept_from own first count =
    let skipped : ℕ = if option_map_or (is_own own) first false then 1 else 0 in
    record { skipped = skipped; kept = count - skipped }

-- where the Request-URI is this server's Record-Route the last one doesn't stay
abbrev pub kept_where : Own → RouteFacts → Option RecordedHostPort → RoutesKept
kept_where own facts None = kept_from own facts.first facts.count
kept_where own facts (Some host_port) = if is_own_record own host_port then kept_from own host_port.first (facts.count - 1)
    else kept_from own facts.first facts.count

-- which Routes are left for a server
abbrev pub kept_by : Own → RouteFacts → RoutesKept
kept_by own facts = kept_where own facts facts.recorded

-- what of a message decides which of its Routes are left
abbrev pub facts_in : Message → RouteFacts
facts_in m = facts_of (request_uri m.start) (values_of Name.Route m.fields)
