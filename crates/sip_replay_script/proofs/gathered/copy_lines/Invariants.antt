use Rattle.std.proofs.Common.{◌≡◌, ◌+◌, ◌-◌, ◌≤◌, length}
use Rattle.sip_replay_script.specs.Gathered.{CopiesLines}
use Rattle.sip_replay_script.proofs.gathered.copy_lines.Given as goal

-- the lines so far are copied
abbrev pub invariant-loop-count : goal.invariant-loop-count
invariant-loop-count l = CopiesLines l.text l.initial.room l.room l.at l.count l.lines × (l.at + l.count + l.lines ≤ length l.room)
    × (length l.room ≡ length l.initial.room)

abbrev pub decreases-loop-count : goal.decreases-loop-count
decreases-loop-count l = length l.text - l.count
