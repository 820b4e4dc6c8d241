-- Years and months that are passed.
use Rattle.std.proofs.Common.{◌≡◌, ℕ, suc, ◌+◌, ◌-◌, true, false, ◌∙◌, ap}
use Rattle.std.specs.Prelude.{nat_lt, if◌then◌else◌}
use Rattle.sipd_report.specs.Calendar.{day_behind, day_of_year, days_of_year}

-- a day of this year
pub this_year : (n m year day : ℕ) → n ≡ suc m → nat_lt day (days_of_year year) ≡ true → day_behind n year day ≡ day_of_year year day
unfolding day_behind
this_year n m year day is within = ap (λ k. day_behind k year day) is ∙ ap (λ b. if b then day_of_year year day else day_behind m (year + 1) (day - days_of_year year))
    within

-- one of a later year
pub later_year : (n m year day : ℕ) → n ≡ suc m → nat_lt day (days_of_year year) ≡ false → day_behind n year day ≡ day_behind m (year + 1) (day - days_of_year year)
unfolding day_behind
later_year n m year day is beyond = ap (λ k. day_behind k year day) is ∙ ap (λ b. if b then day_of_year year day else day_behind m (year + 1) (day - days_of_year year))
    beyond

-- no year is left
pub last_year : (n year day : ℕ) → n ≡ 0 → day_behind n year day ≡ day_of_year year day
unfolding day_behind
last_year n year day is = ap (λ k. day_behind k year day) is
