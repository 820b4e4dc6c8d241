use Rattle.std.proofs.Common.{◌≡◌, ◌-◌, length, take}
use Rattle.sip_text_runs.proofs.begins.begins_with.Given as goal

abbrev pub invariant-by_lanes : goal.invariant-by_lanes
invariant-by_lanes l = take l.seen l.value ≡ take l.seen l.text

abbrev pub decreases-by_lanes : goal.decreases-by_lanes
decreases-by_lanes l = length l.text - l.seen
