-- What a request says of its dialogs.
use Rattle.std.proofs.Common.{◌≡◌, ℕ, Bool, true, false, cond, List, [], ◌∷◌, Option, Some, None, option_map, refl, ap, ◌∙◌}
use Rattle.std.specs.Option.{option_and_then}
use Rattle.std.specs.List.{filter_map, cons_option}
use Rattle.std.specs.Result.{result_ok}
use Rattle.sip_uri.specs.declared.addr.Addr.{Addr}
use Rattle.sip_message_fields.specs.declared.field.Field.{Field}
use Rattle.sip_header.specs.declared.core_fields.CoreFields.{CoreFields}
use Rattle.sip_header.specs.CoreFields.{core_of}
use Rattle.sip_header.specs.declared.name_addr.AnyUri.{AnyUri}
use Rattle.sip_header.specs.declared.name_addr.AnyUri.TheVariants.{Sip, Other}
use Rattle.sip_header.specs.declared.name_addr.NameAddr.{NameAddr}
use Rattle.sip_message_form.specs.declared.message.Message.{Message}
use Rattle.sip_hops.specs.declared.host_address.HostAddress.{HostAddress}
use Rattle.sip_hops.specs.HostAddress.{is_by_udp, port_or_default, address_at, address_of}
use Rattle.sip_dialog.specs.Addresses.{item_in, address_by, address_in, addresses_in}
use Rattle.sip_dialog.specs.DialogId.{id_of}
use Rattle.sip_route_facts.specs.declared.route_facts.HostPort.{HostPort}
use Rattle.sip_state.specs.Names.{names_of, names_in, dialog_by}
use Rattle.sip_route_facts.specs.ContactHostPorts.{host_port_by, host_port_in, host_ports_in, address_there}

-- ---- its dialog

dialog_of_core : (o : Option CoreFields) → dialog_by (option_map names_of o) ≡ option_and_then (λ core. id_of core) o
dialog_of_core None = refl
dialog_of_core (Some core) = refl

pub dialog_is : (m : Message) → dialog_by (names_in m) ≡ option_and_then (λ core. id_of core) (result_ok (core_of m))
dialog_is m = dialog_of_core (result_ok (core_of m))

-- ---- the addresses that it gives

there_by : (rows : List HostAddress) (host : List ℕ) (t : Bool) (port : Option ℕ) →
    option_and_then (address_there rows) (cond t (option_map (λ port. record { host = host; port = port }) port) None)
    ≡ cond t (option_and_then (address_at rows host) port) None
there_by rows host true None = refl
there_by rows host true (Some port) = refl
there_by rows host false port = refl

uri_there : (rows : List HostAddress) (uri : AnyUri) → option_and_then (address_there rows) (host_port_by uri) ≡ address_by (address_of rows) uri
uri_there rows (Sip uri) = there_by rows uri.host (is_by_udp uri) (port_or_default uri.port)
uri_there rows (Other text) = refl

item_there : (rows : List HostAddress) (o : Option NameAddr) → option_and_then (address_there rows) (option_and_then (λ item. host_port_by item.uri) o)
    ≡ option_and_then (λ item. address_by (address_of rows) item.uri) o
item_there rows None = refl
item_there rows (Some item) = uri_there rows item.uri

field_there : (rows : List HostAddress) (field : Field) → option_and_then (address_there rows) (host_port_in field) ≡ address_in (address_of rows) field
field_there rows field = item_there rows (item_in field)

front : (rows : List HostAddress) (o : Option HostPort) (places : List HostPort) (a : Option Addr) (addresses : List Addr) → option_and_then (address_there rows) o ≡ a
    → filter_map (address_there rows) places ≡ addresses
    → filter_map (address_there rows) (cons_option o places) ≡ cons_option a addresses
front rows None places a addresses is rest = rest ∙ ap (λ (o : Option Addr). cons_option o addresses) is
front rows (Some place) places a addresses is rest = ap (λ (o : Option Addr). cons_option o (filter_map (address_there rows) places)) is
    ∙ ap (λ (w : List Addr). cons_option a w) rest

pub addresses_are : (rows : List HostAddress) (fields : List Field) → filter_map (address_there rows) (host_ports_in fields) ≡ addresses_in (address_of rows) fields
addresses_are rows [] = refl
addresses_are rows (field ∷ fields) = front rows (host_port_in field) (host_ports_in fields) (address_in (address_of rows) field) (addresses_in (address_of rows) fields)
    (field_there rows field) (addresses_are rows fields)
