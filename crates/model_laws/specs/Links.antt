-- Steps of a server of the sample configuration, as links of histories. Moments are in milliseconds.
use Rattle.std.specs.Prelude.{ℕ, List, []}
use Rattle.sip_message_form.specs.declared.message.Message.{Message}
use Rattle.sip_message_form.specs.Text.{text_of}
use Rattle.sip_hops.specs.Examples.{local}
use Rattle.sip_config_types.specs.declared.config.Config.{Config}
use Rattle.sip_audit.specs.declared.record.Record.{Record}
use Rattle.sip_event.specs.declared.packet.Packet.{Packet}
use Rattle.sip_event.specs.declared.event.Event.TheVariants.{Datagram}
use Rattle.sip_model.specs.state.declared.proxy_state.ProxyState.{ProxyState}
use Rattle.sip_model.specs.state.declared.open_request.OpenRequest.{OpenRequest}
use Rattle.sip_model.specs.steps_model.Examples.{sample}
use Rattle.sip_model.specs.steps_model.Step.{Act, Given}
use Rattle.sip_model.specs.Run.{Link}

-- a server that knows some open requests, at a moment, before the datagram of a number, and of bindings, nonces and dialogs what another state knows
abbrev pub knowing_open : ProxyState → ℕ → ℕ → List OpenRequest → ProxyState
knowing_open known number moment requests = record known { moment = moment; next = number; requests = requests }

-- a datagram comes at a moment from a port of 127.0.0.1, and says a message
abbrev pub saying : ℕ → ℕ → Message → Act
saying at port m = Given (Datagram at 9 (local port) (text_of m))

-- a step while a configuration is in force, from a state, taken for something, at a moment, that hands out packets and records, and
-- leaves a state
abbrev pub step_by : Config → ProxyState → Act → ℕ → List Packet → List Record → ProxyState → Link
step_by config before act at packets records after = record {
  config = config;
  before = before;
  act = act;
  out = record { at = at; packets = packets; records = records };
  after = after;
}

-- one of the sample configuration
abbrev pub step_of : ProxyState → Act → ℕ → List Packet → List Record → ProxyState → Link
step_of before act at packets records after = step_by sample.config before act at packets records after

-- one without records
abbrev pub sending : ProxyState → Act → ℕ → List Packet → ProxyState → Link
sending before act at packets after = step_of before act at packets [] after
