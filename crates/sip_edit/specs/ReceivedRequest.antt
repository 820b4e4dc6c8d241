-- A request that was received, and where its response goes.
use Rattle.std.specs.Prelude.{ℕ, if◌then◌else◌, List, codes, Option, Some, None, is_some, unwrap_or}
use Rattle.std.specs.Option.{option_and_then, option_map_or}
use Rattle.sip_message_fields.specs.declared.field_name.FieldName.TheVariants as Name
use Rattle.sip_message_fields.specs.declared.field.Field.{Field}
use Rattle.sip_message_form.specs.declared.message.Message.{Message}
use Rattle.sip_route.specs.header.declared.via.Via.{Via}
use Rattle.sip_message_fields.specs.Values.{first_value, with_first}
use Rattle.sip_route.specs.header.Via.{via_of}
use Rattle.sip_route.specs.header.Parameters.{parameter_of}
use Rattle.sip_uri.specs.declared.addr.Addr.{Addr}
use Rattle.sip_edit.specs.TopVia.{received_via}

-- fields, the first Via among them edited
abbrev pub received_fields : Addr → List Field → List Field
received_fields from fields = option_map_or (λ value. with_first Name.Via (received_via value from) fields) (first_value Name.Via fields) fields

-- the request as it came from an address: its top Via names the source (RFC 3261 18.2.1, RFC 3581 4)
abbrev pub received : Message → Addr → Message
received request from = record request { fields = received_fields from request.fields }

-- the top Via, if it's there and can be read
abbrev pub top_via : Message → Option Via
top_via request = option_and_then via_of (first_value Name.Via request.fields)

-- the port of the source where the client asks for it, else the sent-by's, else 5060
abbrev pub response_port : Via → Addr → ℕ
response_port via from = if is_some (parameter_of (codes "rport") via.parameters) then from.port else unwrap_or via.port 5060

-- where a response to a Via goes
abbrev pub address_by : Option Via → Addr → Addr
address_by None from = from
address_by (Some via) from = record from { port = response_port via from }

-- an address with another port, if one is given
abbrev pub at_port : Option ℕ → Addr → Addr
at_port port from = record from { port = unwrap_or port from.port }

-- where the responses to a request that came from an address go (RFC 3261 18.2.2, RFC 3581 4): the source itself where no top Via can be read
abbrev pub response_address : Message → Addr → Addr
response_address request from = address_by (top_via request) from
