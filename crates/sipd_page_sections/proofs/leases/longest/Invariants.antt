use Rattle.std.proofs.Common.{◌≡◌, drop}
use Rattle.std.specs.Prelude.{fold}
use Rattle.sipd_page_sections.specs.Notes.{longest, with_packet}
use Rattle.sipd_page_sections.proofs.leases.longest.Given as goal

-- what the packets that are left make of it is what all make
abbrev pub invariant-loop-packet : goal.invariant-loop-packet
invariant-loop-packet l = fold with_packet l.seconds (drop l.packet-index l.packets) ≡ longest l.packets
