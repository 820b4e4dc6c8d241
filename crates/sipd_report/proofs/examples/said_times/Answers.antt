use Rattle.std.proofs.Common.{refl}
use Rattle.sipd_report.proofs.examples.said_times.Goals as goal

pub returns-clause-times : goal.returns-clause-times
returns-clause-times c = record { first = refl; date = refl; minute = refl; second = refl; leap_day = refl; last = refl }

pub returns-clause-none : goal.returns-clause-none
returns-clause-none c =
    record { word = refl; no_leap_day = refl; thirteenth = refl; no_month = refl; no_day = refl; short = refl; hour = refl; no_clock = refl; before = refl }

pub returns-clause-moments : goal.returns-clause-moments
returns-clause-moments c = record { ahead = refl; utc = refl; start = refl }
