use Rattle.std.proofs.Common.{◌≤◌, List, length}
use Rattle.sip_timers.specs.declared.timer.Timer.{Timer}
use Rattle.sip_timers_wheel.specs.Lists.{list_at}
use Rattle.sip_timers_wheel.specs.Wheel.{AreMoved}
use Rattle.sip_timers_wheel.proofs.wheel_timers.empty_slot.Given as goal

-- the timers so far have moved
abbrev pub invariant-loop-due : goal.invariant-loop-due
invariant-loop-due l =
    ((moved : List Timer) × AreMoved l.reached l.slot moved l.fn.levels.lists l.levels.lists)
    × (l.fn.levels.room ≤ l.levels.room)

-- those that are left
abbrev pub decreases-loop-due : goal.decreases-loop-due
decreases-loop-due l = length (list_at l.levels.lists l.slot)
