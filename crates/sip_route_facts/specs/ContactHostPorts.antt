-- Where Contact and Record-Route of a request lead, whatever table of addresses there is (RFC 3261 12.1.1).
use Rattle.std.specs.Prelude.{List, Option, None, option_map, if◌then◌else◌}
use Rattle.std.specs.Option.{option_and_then}
use Rattle.std.specs.List.{filter_map}
use Rattle.sip_uri.specs.declared.uri.Uri.{Uri}
use Rattle.sip_uri.specs.declared.addr.Addr.{Addr}
use Rattle.sip_message_fields.specs.declared.field.Field.{Field}
use Rattle.sip_header.specs.declared.name_addr.AnyUri.{AnyUri}
use Rattle.sip_header.specs.declared.name_addr.AnyUri.TheVariants.{Sip, Other}
use Rattle.sip_hops.specs.declared.host_address.HostAddress.{HostAddress}
use Rattle.sip_hops.specs.HostAddress.{is_by_udp, port_or_default, address_at}
use Rattle.sip_dialog.specs.Addresses.{item_in}
use Rattle.sip_route_facts.specs.declared.route_facts.HostPort.{HostPort}

-- where a URI leads that may have an address
abbrev pub host_port_by_udp : Uri → Option HostPort
host_port_by_udp u = if is_by_udp u then option_map (λ port. record { host = u.host; port = port }) (port_or_default u.port) else None

-- the same of a URI of any scheme
abbrev pub host_port_by : AnyUri → Option HostPort
host_port_by (Sip uri) = host_port_by_udp uri
host_port_by (Other text) = None

-- where a Contact or a Record-Route leads
abbrev pub host_port_in : Field → Option HostPort
host_port_in field = option_and_then (λ item. host_port_by item.uri) (item_in field)

-- where those of some fields lead, in their order
abbrev pub host_ports_in : List Field → List HostPort
host_ports_in fields = filter_map host_port_in fields

-- the address of a place in a table
abbrev pub address_there : List HostAddress → HostPort → Option Addr
address_there rows host_port = address_at rows host_port.host host_port.port
