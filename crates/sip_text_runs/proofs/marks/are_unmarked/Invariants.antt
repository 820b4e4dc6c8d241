use Rattle.std.proofs.Common.{◌-◌, length}
use Rattle.sip_text_runs.proofs.OneValue.{IsUnmarkedBefore}
use Rattle.sip_text_runs.proofs.marks.are_unmarked.Given as goal

abbrev pub invariant-by_lanes : goal.invariant-by_lanes
invariant-by_lanes l = IsUnmarkedBefore l.bytes l.seen

abbrev pub decreases-by_lanes : goal.decreases-by_lanes
decreases-by_lanes l = length l.bytes - l.seen
