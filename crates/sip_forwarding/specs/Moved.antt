-- A packet whose bytes were taken out.
use Rattle.std.specs.Prelude.{[]}
use Rattle.sip_event.specs.declared.packet.Packet.{Packet}

-- the packet without them
abbrev pub emptied : Packet → Packet
emptied p = record p { bytes = [] }
