-- The bindings after a history: what its allowed REGISTERs alone make of them (RFC 3261 10.3).
use Rattle.std.specs.Prelude.{ℕ, List, [], ◌∷◌, ◌++◌, Option, Some, None}
use Rattle.std.specs.Option.{option_and_then, option_map_or, option_to_list}
use Rattle.std.specs.Result.{result_ok}
use Rattle.sip_message_form.specs.declared.message.Message.{Message}
use Rattle.sip_header.specs.CoreFields.{core_of}
use Rattle.sip_location.specs.declared.binding.Binding.{Binding}
use Rattle.sip_event.specs.declared.event.Event.TheVariants.{Datagram, Time, Fault}
use Rattle.model_steps.specs.state.declared.server.Server.{Server}
use Rattle.model_steps.specs.state.declared.proxy_state.ProxyState.{ProxyState}
use Rattle.model_steps.specs.state.Arrival.{Arrival}
use Rattle.model_steps.specs.verdict_model.Verdict.{Registered, Bound, Refused, Verdict, Drop, Respond, Copy, AckOn, Cancel, Answer}
use Rattle.model_steps.specs.verdict_model.Verdict.{InDialog, Challenge, Deny, Send, Register, registration_by, verdict_of}
use Rattle.model_steps.specs.Step.{Act, Given, Passing, arrival_of}
use Rattle.sip_config_types.specs.declared.config.Config.{Config}
use Rattle.sip_model.specs.Run.{Link, under}

-- ---- the bindings that REGISTERs make

-- a REGISTER, the configuration by which it was let through, and the moment at which it came
pub record Arrived : Type 0 where
  pub config : Config
  pub at : ℕ
  pub request : Message

-- the rows after a registration: as they were, where it is refused
abbrev pub rows_after : List Binding → Registered → List Binding
rows_after rows (Bound after) = after
rows_after rows (Refused status extras) = rows

-- the rows after one REGISTER; one whose core fields can't be read changes nothing, and none such is let through
abbrev pub after_register : Server → Arrived → List Binding → List Binding
after_register server r rows = option_map_or (λ core. rows_after rows (registration_by (under server r.config) rows r.at r.request core))
    (result_ok (core_of r.request)) rows

-- The bindings after some REGISTERs that were let through, the newest first. Nothing else is known here: no transaction, no
-- retransmission, no packet.
abbrev pub bindings_by : Server → List Arrived → List Binding
bindings_by server [] = []
bindings_by server (r ∷ earlier) = after_register server r (bindings_by server earlier)

-- ---- the REGISTERs of a history

-- a REGISTER that was let through
abbrev pub allowed_by : Config → ℕ → Message → Verdict → Option Arrived
allowed_by config now m (Register q id outcome) = Some (record { config = config; at = now; request = m })
allowed_by config now m Drop = None
allowed_by config now m (Respond r b status) = None
allowed_by config now m (Copy r) = None
allowed_by config now m (AckOn address id) = None
allowed_by config now m (Cancel found) = None
allowed_by config now m (Answer status extras) = None
allowed_by config now m (InDialog address id) = None
allowed_by config now m (Challenge q) = None
allowed_by config now m (Deny q id) = None
allowed_by config now m (Send q id targets) = None

-- the REGISTER that a datagram lets through, if it does
abbrev pub allowed_in : Server → ProxyState → Arrival → List ℕ → Option Arrived
allowed_in server state a bytes = option_and_then (λ x. allowed_by server.config a.now x.0 x.1) (verdict_of server state a bytes)

-- the REGISTER that a step lets through, if it does
abbrev pub allowed_at : Server → ProxyState → Act → Option Arrived
allowed_at server state (Given (Datagram at word from bytes)) = allowed_in server state (arrival_of state at word from) bytes
allowed_at server state (Given (Time at)) = None
allowed_at server state (Given (Fault at ticket)) = None
allowed_at server state (Passing at) = None

-- those of a history, the newest first
abbrev pub allowed_registers : Server → List Link → List Arrived
allowed_registers server [] = []
allowed_registers server (link ∷ history) = option_to_list (allowed_at (under server link.config) link.before link.act) ++ allowed_registers server history

-- the bindings after a history
abbrev pub bindings_after : Server → List Link → List Binding
bindings_after server history = bindings_by server (allowed_registers server history)
