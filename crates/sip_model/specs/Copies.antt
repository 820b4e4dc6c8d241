-- How often a packet goes again.
use Rattle.std.specs.Prelude.{ℕ, ◌+◌, ◌==◌, ◌&&◌, Bool, List, [], ◌∷◌, count_by}
use Rattle.std.specs.Str.{bytes_eq}
use Rattle.sip_event.specs.declared.packet.Packet.{Packet}
use Rattle.sip_model.specs.Run.{Link}

-- whether a packet is another one again: the same bytes to the same address for the same ticket
abbrev pub is_copy_of : Packet → Packet → Bool
is_copy_of p q =
    q.again && bytes_eq q.bytes p.bytes && bytes_eq q.to.ip p.to.ip && q.to.port == p.to.port && q.ticket.datagram == p.ticket.datagram
    && q.ticket.branch == p.ticket.branch

-- how many retransmissions of a packet a history hands out
abbrev pub copies_of : Packet → List Link → ℕ
copies_of p [] = 0
copies_of p (link ∷ history) = count_by (is_copy_of p) link.out.packets + copies_of p history
