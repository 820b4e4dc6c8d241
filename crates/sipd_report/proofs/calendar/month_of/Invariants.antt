use Rattle.std.proofs.Common.{◌≡◌, ◌+◌, ◌^◌, ◌<◌, drop}
use Rattle.sipd_report.specs.Calendar.{month_among}
use Rattle.sipd_report.proofs.calendar.month_of.Given as goal

-- the months that are left have it
abbrev pub invariant-loop-days : goal.invariant-loop-days
invariant-loop-days l =
    (month_among (drop l.days-index l.months) l.month l.left ≡ month_among l.months 1 l.day) × (l.left < 2 ^ 62) × (l.month ≡ l.days-index + 1)
