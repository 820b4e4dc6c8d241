-- A link over memory of the worked example.
use Rattle.std.specs.Prelude.{ℕ, false, [], ◌∷◌, Some}
use Rattle.sip_transport.specs.MemoryLink.{MemoryState, received}
use Rattle.sip_transport.specs.declared.datagram.HeardDatagram.{HeardDatagram}
use Rattle.sip_transport.specs.declared.datagram.Given.{Given}
use Rattle.sip_transport.specs.declared.datagram.SendOutcome.TheVariants.{Went}
use Rattle.sip_uri.specs.declared.addr.Addr.{Addr}

-- an address of this machine
abbrev pub here : Addr
here = record { ip = 127 ∷ 0 ∷ 0 ∷ 1 ∷ []; port = 5060 }

-- a datagram of one byte that is heard
abbrev pub heard : ℕ → HeardDatagram
heard byte = record { from = here; bytes = byte ∷ [] }

-- an empty datagram that went out
abbrev pub sent : Given
sent = record { to = here; bytes = []; sending = Went }

-- a link that is to hear two datagrams, was given one, and fails at its second receive and its second send
abbrev pub two_datagrams : MemoryState
two_datagrams = record {
  waiting = heard 1 ∷ heard 2 ∷ [];
  heard = [];
  fresh = false;
  aside = [];
  given = sent ∷ [];
  held = [];
  receives = 0;
  failures = 0;
  receive_fails = 2 ∷ [];
  send_fails = 2 ∷ [];
  waits = Some [];
}

-- the same behind four receives
abbrev pub behind_four : MemoryState
behind_four = received (received (received (received two_datagrams)))
