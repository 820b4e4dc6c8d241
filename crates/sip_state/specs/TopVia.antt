-- What the top Via of a request says that came from an address.
use Rattle.std.specs.Prelude.{◌≡◌}
use Rattle.sip_message_fields.specs.declared.field_name.FieldName.TheVariants as Name
use Rattle.sip_message_fields.specs.Values.{with_first}
use Rattle.sip_message_form.specs.declared.message.Message.{Message}
use Rattle.sip_edit.specs.ReceivedRequest.{at_port, received_fields, response_address}
use Rattle.sip_uri.specs.declared.addr.Addr.{Addr}
use Rattle.sip_state.specs.declared.top_via.TopVia.{TopVia}

-- the value that it gets, and the port to which the answers go from whatever address it came (RFC 3261 18.2)
pub record IsTopVia (m : Message) (via : TopVia) : Type 0 where
  pub value : with_first Name.Via via.value m.fields ≡ received_fields via.source m.fields
  pub port : (from : Addr) → at_port via.port from ≡ response_address m from
