use Rattle.std.proofs.Common.{◌≡◌, ◌++◌, map, take, drop}
use Rattle.sip_forwarding.specs.Moved.{emptied}
use Rattle.sip_forwarding.proofs.packets.move_packets.Given as goal

-- the packets so far, and the places, of which the first were emptied
abbrev pub invariant-loop-place : goal.invariant-loop-place
invariant-loop-place l =
    (l.out ≡ l.fn.out ++ take l.place-index l.fn.packets)
    × (l.packets ≡ map emptied (take l.place-index l.fn.packets) ++ drop l.place-index l.fn.packets)
