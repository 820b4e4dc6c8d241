use Rattle.std.proofs.Common.{◌≡◌, ◌≤◌, ◌-◌}
use Rattle.sip_timers_wheel.specs.Wheel.{IsWheel, pending_in}
use Rattle.sip_timers_wheel.proofs.wheel_timers.reach.Given as goal

-- the same timers stand, in place by the moment that is reached so far
abbrev pub invariant-loop-so_far : goal.invariant-loop-so_far
invariant-loop-so_far l =
    IsWheel l.so_far l.levels.lists
    × (l.so_far ≤ l.now)
    × (pending_in l.levels.lists ≡ pending_in l.fn.levels.lists)
    × (l.fn.levels.room ≤ l.levels.room)

-- the milliseconds that are left
abbrev pub decreases-loop-so_far : goal.decreases-loop-so_far
decreases-loop-so_far l = l.now - l.so_far
