-- What came and went in a step, as a capture has it.
use Rattle.std.specs.Prelude.{ℕ, ◌&&◌, Bool, true, false, nat_le, if◌then◌else◌, List, [], ◌++◌, length, Option, None, Some, option_map}
use Rattle.std.specs.List.{flat_map}
use Rattle.std.specs.Option.{option_and_then}
use Rattle.std.specs.Result.{result_ok}
use Rattle.std.specs.Str.{bytes_eq}
use Rattle.sip_uri.specs.declared.addr.Addr.{Addr}
use Rattle.sip_message.specs.Reading.{reading_of}
use Rattle.sip_header.specs.CoreFields.{core_of}
use Rattle.sip_header.specs.declared.core_fields.CoreFields.{CoreFields}
use Rattle.sip_config_types.specs.declared.config.Config.{Config}
use Rattle.sip_event.specs.declared.event.Event.{Event}
use Rattle.sip_event.specs.declared.event.Event.TheVariants.{Datagram, Time, Fault}
use Rattle.sip_event.specs.declared.event.StepOut.{StepOut}
use Rattle.sip_event.specs.declared.packet.Packet.{Packet}
use Rattle.sip_message_form.specs.declared.message.Message.{Message}
use Rattle.sipd_capture.specs.Headers.{frame}
use Rattle.sipd_capture.specs.Hiding.{hidden}
use Rattle.sipd_capture.specs.declared.choice.CaptureChoice.{CaptureChoice}

-- ---- which datagrams

-- the Call-ID of the message that bytes say, if they say one whose core fields are read (RFC 3261 8.1.1)
abbrev pub call_id_of : Message → Option (List ℕ)
call_id_of m = option_map (λ (core : CoreFields). core.call_id) (result_ok (core_of m))

abbrev pub call_id_in : List ℕ → Option (List ℕ)
call_id_in bytes = option_and_then call_id_of (result_ok (reading_of bytes))

abbrev pub is_call : List ℕ → Option (List ℕ) → Bool
is_call wanted None = false
is_call wanted (Some call_id) = bytes_eq call_id wanted

-- of the call that is wanted, or of any
abbrev pub is_of : Option (List ℕ) → List ℕ → Bool
is_of None bytes = true
is_of (Some wanted) bytes = is_call wanted (call_id_in bytes)

-- no datagram of IPv4 and UDP is longer
abbrev pub fits : List ℕ → Bool
fits bytes = nat_le (length bytes) 65507

abbrev pub shown : Bool → List ℕ → List ℕ
shown hide bytes = if hide then hidden bytes else bytes

-- ---- frames

-- a datagram of a moment, if it is one of those
abbrev pub datagram : CaptureChoice → ℕ → Addr → Addr → List ℕ → List ℕ
datagram choice at from to bytes =
    if fits bytes && is_of choice.call_id bytes then frame at from to (shown choice.hide bytes) else []

-- the address at which a server of a configuration is served
abbrev pub own_addr : Config → Addr
own_addr config = record { ip = config.own.ip; port = config.bound_port }

-- the datagram that a step brought
abbrev pub came : CaptureChoice → Addr → ℕ → Option Event → List ℕ
came choice own at None = []
came choice own at (Some (Datagram moment word from bytes)) = datagram choice at from own bytes
came choice own at (Some (Time moment)) = []
came choice own at (Some (Fault moment ticket)) = []

-- a packet of it
abbrev pub went : CaptureChoice → Addr → ℕ → Packet → List ℕ
went choice own at packet = datagram choice at own packet.to packet.bytes

-- a step: what it brought, then its packets, in their order, at its moment
abbrev pub frames_of : CaptureChoice → Config → Option Event → StepOut → List ℕ
frames_of choice config event out =
    came choice (own_addr config) out.at event ++ flat_map (went choice (own_addr config) out.at) out.packets
