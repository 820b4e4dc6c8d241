use Rattle.std.proofs.Common.{◌≡◌, drop}
use Rattle.sipd_sources.specs.Claims.{answers_stale}
use Rattle.sipd_sources.proofs.claims.answers_stale.Given as goal

-- the packets that are left decide
abbrev pub invariant-loop-packet : goal.invariant-loop-packet
invariant-loop-packet l = answers_stale (drop l.packet-index l.packets) ≡ answers_stale l.packets
