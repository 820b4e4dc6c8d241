-- To whom the requests of branches go, and with which Request-URIs, read off the packets (RFC 3261 7.1, 16.6).
use Rattle.std.specs.Prelude.{◌≡◌, ℕ, ◌+◌, false, List, [], ◌∷◌, ◌++◌, codes, Some, None}
use Rattle.sip_uri.specs.declared.addr.Addr.{Addr}
use Rattle.sip_uri.specs.declared.uri.Uri.{Uri}
use Rattle.sip_uri.specs.Uri.{text_of}
use Rattle.sip_targets.specs.declared.target.Target.{Target}
use Rattle.sip_event.specs.declared.packet.Packet.{Packet}

-- bytes begin with a request line: a method, a space, a Request-URI, a space, `SIP/2.0` and the end of the line (RFC 3261 7.1)
pub record BeginsWithLine (method uri bytes : List ℕ) : Type 0 where
  pub rest : List ℕ
  pub is_text : bytes ≡ method ++ codes " " ++ uri ++ codes " SIP/2.0\r\n" ++ rest

-- a packet is a request of a method to a URI at an address: the request that came in the datagram of a number, as it goes to the
-- target of a place, for the first time
pub record IsRequestTo (number : ℕ) (method : List ℕ) (place : ℕ) (uri : Uri) (address : Addr) (p : Packet) : Type 0 where
  pub goes_there : p.to ≡ address
  pub begins : BeginsWithLine method (text_of uri) p.bytes
  pub is_of_datagram : p.ticket.datagram ≡ number
  pub is_of_place : p.ticket.branch ≡ place
  pub is_first : p.again ≡ false

-- Packets go to some targets, which are numbered from a place on: one goes to each target with an address, in their order, and none elsewhere.
pub data GoToTargets (number : ℕ) (method : List ℕ) : ℕ → List Target → List Packet → Type 0 where
  NoMore : (place : ℕ) → GoToTargets number method place [] []
  Goes : (place : ℕ) (t : Target) (address : Addr) (p : Packet) (targets : List Target) (packets : List Packet) → t.address ≡ Some address
      → IsRequestTo number method place t.uri address p → GoToTargets number method (place + 1) targets packets → GoToTargets number method
      place (t ∷ targets) (p ∷ packets)
  GoesNowhere : (place : ℕ) (t : Target) (targets : List Target) (packets : List Packet) → t.address ≡ None
      → GoToTargets number method (place + 1) targets packets
      → GoToTargets number method place (t ∷ targets) packets
