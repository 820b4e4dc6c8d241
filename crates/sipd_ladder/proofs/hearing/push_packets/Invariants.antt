use Rattle.std.proofs.Common.{◌≡◌, ◌++◌, take}
use Rattle.std.specs.List.{flat_map}
use Rattle.sipd_ladder.specs.Hearing.{went}
use Rattle.sipd_ladder.proofs.hearing.push_packets.Given as goal

-- the packets so far stand there
abbrev pub invariant-loop-packet : goal.invariant-loop-packet
invariant-loop-packet l = l.rungs ≡ l.fn.rungs ++ flat_map (went l.call_id l.place l.out) (take l.packet-index l.packets)
