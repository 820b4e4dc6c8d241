use Rattle.std.proofs.Common.{◌≡◌, ◌≤◌, ◌+◌, ◌++◌, decimal, drop, length}
use Rattle.sip_replay_script.proofs.front.put_number.Given as goal

-- the digits that are left stand in front of those that were put, and there is room for them
abbrev pub invariant-loop-left : goal.invariant-loop-left
invariant-loop-left l =
    (l.start ≤ l.end) × (length l.room ≡ length l.initial.room) × (decimal l.left ++ drop l.start l.room ≡ decimal l.number ++ drop l.end l.initial.room)
    × (length (decimal l.left) + l.end ≤ l.start + 20)

abbrev pub decreases-loop-left : goal.decreases-loop-left
decreases-loop-left l = l.left
