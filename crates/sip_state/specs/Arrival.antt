-- A datagram as it comes.
use Rattle.std.specs.Prelude.{ℕ}
use Rattle.sip_uri.specs.declared.addr.Addr.{Addr}

-- A datagram that comes: its number, the moment, the word that makes the nonce of a challenge, and its source.
pub record Arrival : Type 0 where
  pub number : ℕ
  pub now : ℕ
  pub word : ℕ
  pub from : Addr
