use Rattle.std.proofs.Common.{◌≡◌}
use Rattle.sip_transport.proofs.udp_link.UdpLink.hear_at_once.Given as goal

abbrev pub invariant-loop : goal.invariant-loop
invariant-loop l = (l.self.receives ≡ l.fn.self.receives) × (l.self.failures ≡ l.fn.self.failures) × (l.self.kept ≡ l.fn.self.kept)
