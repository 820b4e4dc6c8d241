-- A request that is kept beyond its datagram.
use Rattle.sip_message_form.specs.declared.message.Message.{Message}
use Rattle.sip_uri.specs.declared.addr.Addr.{Addr}

-- A request as it came, and the address that it came from.
pub record KeptRequest : Type 0 where
  pub message : Message
  pub source : Addr
