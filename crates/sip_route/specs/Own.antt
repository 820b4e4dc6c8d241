-- This server's own places.
use Rattle.std.specs.Prelude.{ℕ, Bool, ◌&&◌, ◌||◌, ◌==◌, if◌then◌else◌, List, [], ◌∷◌, decimal, codes, Option, Some, None}
use Rattle.std.specs.Option.{unwrap_or}
use Rattle.std.specs.List.{list_any}
use Rattle.std.specs.Str.{bytes_eq}
use Rattle.sip_text.specs.Words.{is_same_text}
use Rattle.sip_uri.specs.Addresses.{ip_text}
use Rattle.sip_uri.specs.declared.scheme.Scheme.TheVariants as Scheme
use Rattle.sip_uri.specs.declared.uri.Uri.{Uri}
use Rattle.sip_uri.specs.Port.{port_number}
use Rattle.sip_header.specs.Parameters.{branch_of}
use Rattle.sip_header.specs.declared.via.Via.{Via}
use Rattle.sip_route.specs.declared.own.Own.{Own}

-- the host that this server calls itself or a domain that it serves, in any case, or its address in dotted form
abbrev pub is_own_host : Own → List ℕ → Bool
is_own_host own host = is_same_text own.host host || list_any (λ domain. is_same_text domain host) own.domains || bytes_eq (ip_text own.ip) host

-- Whether a URI names this server (RFC 3261 16.4, 16.12): an own host, and its port by its number, 5060 where none is written. User
-- part, parameters, and
-- whether it is `sip` or `sips` don't matter (this project's profile).
abbrev pub is_own_host_port : Own → Uri → Bool
is_own_host_port own uri = is_own_host own uri.host && unwrap_or (port_number uri.port) 5060 == own.port

-- whether a Via is this server's: its sent-by is the host that it calls itself, in any case, and its port (RFC 3261 16.3 step 4, 18.1.2)
abbrev pub is_own_via : Own → Via → Bool
is_own_via own via = is_same_text own.host via.host && unwrap_or via.port 5060 == own.port

-- the branch of a Via, if the Via is this server's (RFC 3261 16.7 step 1)
abbrev pub own_branch : Own → Via → Option (List ℕ)
own_branch own via = if is_own_via own via then branch_of via.parameters else None

-- the URI that this server puts into Record-Route, `sip:HOST:PORT;lr` (RFC 3261 16.6 step 4)
abbrev pub record_route_uri : Own → Uri
record_route_uri own =
    record {
      scheme = Scheme.Sip;
      userinfo = None;
      host = own.host;
      port = Some (decimal own.port);
      parameters = record { name = codes "lr"; value = None } ∷ [];
      headers = [];
    }
