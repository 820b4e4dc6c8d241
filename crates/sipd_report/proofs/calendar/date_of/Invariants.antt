use Rattle.std.proofs.Common.{◌≡◌, ◌+◌, ◌-◌, ◌*◌, ◌/◌, ◌%◌, ◌^◌, ◌≤◌, ◌<◌}
use Rattle.sipd_report.specs.Calendar.{day_behind}
use Rattle.sipd_report.proofs.calendar.date_of.Given as goal

-- the years that are left have it
abbrev pub invariant-loop : goal.invariant-loop
invariant-loop l =
    (day_behind (400 - l.counter) l.year l.day ≡ day_behind 400 (1970 + 400 * (l.days / 146097)) (l.days % 146097)) × (l.day < 2 ^ 62) × (l.year ≤ 2 ^ 61 + l.counter)
