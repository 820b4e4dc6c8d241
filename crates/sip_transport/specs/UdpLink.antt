-- A link over a UDP socket.
use Rattle.std.specs.Prelude.{◌≢◌, ℕ, List, Option, Result, IfOk, IfSome}
use Rattle.sip_transport.specs.declared.datagram.LinkFault.{LinkFault}
use Rattle.sip_uri.specs.declared.addr.Addr.{Addr}

-- what a link over a socket is seen as: what waiting came to that no receive has handed over yet (a datagram's source, that none
-- came, or a fault), the bytes of the datagram that it heard last, how many receives there were, and how many of them failed
pub record UdpState : Type 0 where
  pub kept : Option (Result (Option Addr) LinkFault)
  pub held : List ℕ
  pub receives : ℕ
  pub failures : ℕ

-- where waiting came to a datagram, its source can be answered
abbrev pub IsAnswerable : Option (Result (Option Addr) LinkFault) → Type 0
IsAnswerable kept = IfSome kept (λ found. IfOk found (λ from. IfSome from (λ source. source.port ≢ 0)))
