-- What the packets of a request have in common is that of the request as it was received.
use Rattle.std.specs.Prelude.{◌≡◌}
use Rattle.sip_message_form.specs.declared.message.Message.{Message}
use Rattle.sip_uri.specs.declared.addr.Addr.{Addr}
use Rattle.sip_edit.specs.ReceivedRequest.{received}
use Rattle.sip_edit.specs.Tail.{tail_of}
use Rattle.sip_state.specs.declared.tail.Tail.{Tail}

-- the tail of a request that came from an address (RFC 3261 16.6)
abbrev pub IsTail : Message → Addr → Tail → Type 0
IsTail m source tail = tail.text ≡ tail_of tail.routes tail.realm (received m source)
