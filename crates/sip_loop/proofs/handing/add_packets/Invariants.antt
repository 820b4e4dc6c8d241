use Rattle.std.proofs.Common.{◌≡◌, ◌++◌, drop}
use Rattle.sip_loop.proofs.handing.add_packets.Given as goal

abbrev pub invariant-loop-packet : goal.invariant-loop-packet
invariant-loop-packet l = l.packets ++ drop l.packet-index l.more ≡ l.initial.packets ++ l.more
