-- The Gregorian calendar, as if it had been in use at all times.
use Rattle.std.specs.Prelude.{ℕ, zero, suc, Bool, ◌+◌, ◌-◌, ◌*◌, ◌/◌, ◌%◌, ◌==◌, ◌&&◌, ◌||◌, not, nat_lt, if◌then◌else◌, List, [], ◌∷◌, take, sum}
use Rattle.sipd_report.specs.declared.calendar.Date.{Date}

-- every fourth year is a leap year, of the hundredth ones every fourth
abbrev pub is_leap_year : ℕ → Bool
is_leap_year year = (year % 4 == 0 && not (year % 100 == 0)) || year % 400 == 0

-- how many days a year has
abbrev pub days_of_year : ℕ → ℕ
days_of_year year = if is_leap_year year then 366 else 365

-- how many days its months have
abbrev pub days_of_months : ℕ → List ℕ
days_of_months year = 31 ∷ (if is_leap_year year then 29 else 28) ∷ 31 ∷ 30 ∷ 31 ∷ 30 ∷ 31 ∷ 31 ∷ 30 ∷ 31 ∷ 30 ∷ 31 ∷ []

-- the month of a day, and its number in that month, where the months from the first of these on have so many days
abbrev pub month_among : List ℕ → ℕ → ℕ → ℕ × ℕ
month_among [] month day = (month, day + 1)
month_among (days ∷ more) month day = if nat_lt day days then (month, day + 1) else month_among more (month + 1) (day - days)

-- a day of a year, counted from 0
abbrev pub day_of_year : ℕ → ℕ → Date
day_of_year year day = let found : ℕ × ℕ = month_among (days_of_months year) 1 day in record { year = year; month = found.0; day = found.1 }

-- a day that is so many days behind the start of a year, within some years
unfoldable pub day_behind : ℕ → ℕ → ℕ → Date
day_behind zero year day = day_of_year year day
day_behind (suc years) year day =
    if nat_lt day (days_of_year year) then day_of_year year day else day_behind years (year + 1) (day - days_of_year year)

-- the date that is so many days behind 1 January 1970: each 400 years have 146,097 days
abbrev pub date_of : ℕ → Date
date_of days = day_behind 400 (1970 + 400 * (days / 146097)) (days % 146097)

-- ---- which day a date is

-- how many leap years there are from the year 1 up to a year
abbrev pub leap_years_to : ℕ → ℕ
leap_years_to year = year / 4 - year / 100 + year / 400

-- how many days there are from the year 1 up to a year
abbrev pub days_before_year : ℕ → ℕ
days_before_year year = 365 * (year - 1) + leap_years_to (year - 1)

-- how many days there are from 1 January of the year 1 up to a date
abbrev pub day_number : Date → ℕ
day_number date = days_before_year date.year + (sum (take (date.month - 1) (days_of_months date.year)) + (date.day - 1))
