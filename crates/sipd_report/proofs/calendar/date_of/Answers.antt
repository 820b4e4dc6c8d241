use Rattle.std.proofs.Common.{◌+◌, ◌-◌, ◌∙◌, ◌≡◌, false, sym, ap, arith}
use Rattle.std.specs.Prelude.{nat_lt}
use Rattle.std.proofs.lemmas.Bool.{lt-ltb, le-ltb}
use Rattle.sipd_report.specs.Calendar.{day_behind, days_of_year}
use Rattle.sipd_report.proofs.Dates.{this_year, later_year, last_year}
use Rattle.sipd_report.proofs.calendar.date_of.Goals as goal

pub returns-then-day-length : goal.returns-then-day-length
returns-then-day-length c =
    c.day_of_year.ensures
    ∙ sym (this_year (400 - c.loop.counter) (400 - (c.loop.counter + 1)) c.loop.year c.loop.day (omega (arith, c.loop-test.true))
    (lt-ltb c.loop.day (days_of_year c.loop.year) (omega (arith, c.if-day-length.true, c.days_of_year-length.ensures))))
    ∙ c.loop.invariant.0

pub loop-preserved : goal.loop-preserved
loop-preserved c =
    let beyond : nat_lt c.loop.day (days_of_year c.loop.year) ≡ false = le-ltb c.loop.day (days_of_year c.loop.year)
    (omega (arith, c.if-day-length.false, c.days_of_year-length.ensures)) in (
      ap (λ n. day_behind (400 - (c.loop.counter + 1)) (c.loop.year + 1) (c.loop.day - n)) c.days_of_year-length.ensures
          ∙ sym (later_year (400 - c.loop.counter) (400 - (c.loop.counter + 1)) c.loop.year c.loop.day (omega (arith, c.loop-test.true)) beyond)
          ∙ c.loop.invariant.0,
      omega (arith, c.loop.invariant.1),
      omega (arith, c.loop.invariant.2),
    )

pub returns : goal.returns
returns c = c.day_of_year-2.ensures ∙ sym (last_year (400 - c.loop.counter) c.loop.year c.loop.day (omega (arith, c.loop-test.false))) ∙ c.loop.invariant.0
