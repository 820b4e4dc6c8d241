use Rattle.std.proofs.Common.{◌≡◌, ◌++◌, take}
use Rattle.std.specs.List.{flat_map}
use Rattle.sipd_capture.specs.Frames.{went}
use Rattle.sipd_capture.proofs.frames.push_all.Given as goal

-- the packets so far are written
abbrev pub invariant-loop-packet : goal.invariant-loop-packet
invariant-loop-packet l = l.out ≡ l.fn.out ++ flat_map (went l.choice l.own l.at) (take l.packet-index l.packets)
