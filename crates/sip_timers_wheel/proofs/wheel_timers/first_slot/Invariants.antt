use Rattle.std.proofs.Common.{◌<◌, ℕ}
use Rattle.sip_timers_wheel.specs.Wheel.{IsEmptyLevel}
use Rattle.sip_timers_wheel.proofs.wheel_timers.first_slot.Given as goal

-- the levels so far are empty
abbrev pub invariant-loop-level : goal.invariant-loop-level
invariant-loop-level l = (lower : ℕ) → lower < l.level → IsEmptyLevel l.levels.lists lower
