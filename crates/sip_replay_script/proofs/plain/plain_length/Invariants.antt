use Rattle.std.proofs.Common.{◌-◌, length}
use Rattle.sip_replay_script.proofs.PlainRuns.{PlainBefore}
use Rattle.sip_replay_script.proofs.plain.plain_length.Given as goal

abbrev pub invariant-by_lanes : goal.invariant-by_lanes
invariant-by_lanes l = PlainBefore l.bytes l.end

abbrev pub decreases-by_lanes : goal.decreases-by_lanes
decreases-by_lanes l = length l.bytes - l.end

abbrev pub invariant-loop-end : goal.invariant-loop-end
invariant-loop-end l = PlainBefore l.bytes l.end

abbrev pub decreases-loop-end : goal.decreases-loop-end
decreases-loop-end l = length l.bytes - l.end
