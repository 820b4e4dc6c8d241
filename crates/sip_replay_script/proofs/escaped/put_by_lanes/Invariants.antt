use Rattle.std.proofs.Common.{◌≡◌, ◌+◌, ◌-◌, ◌*◌, ◌≤◌, drop, length}
use Rattle.sip_replay_script.specs.Escaped.{text_with}
use Rattle.sip_replay_script.proofs.escaped.put_by_lanes.Given as goal

-- what was put, in front of the text of the rest, is what was there in front of the text of all
abbrev pub invariant-by_lanes : goal.invariant-by_lanes
invariant-by_lanes l =
    (text_with l.room (l.at + l.size) (drop l.count l.bytes) ≡ text_with l.initial.room l.at l.bytes) × (l.count ≤ length l.bytes) × (l.size ≤ 3 * l.count)
    × (length l.room ≡ length l.initial.room)

abbrev pub decreases-by_lanes : goal.decreases-by_lanes
decreases-by_lanes l = length l.bytes - l.count
