use Rattle.std.proofs.Common.{◌-◌, ◌≤◌}
use Rattle.sip_replay_script.proofs.HeadAtOnce.{AreDigits}
use Rattle.sip_replay_script.proofs.script.number_before.Given as goal

-- the digits so far write the number so far
abbrev pub invariant-loop-count : goal.invariant-loop-count
invariant-loop-count l = AreDigits l.text l.from l.count l.number × (l.count ≤ l.most)

abbrev pub decreases-loop-count : goal.decreases-loop-count
decreases-loop-count l = l.most - l.count
