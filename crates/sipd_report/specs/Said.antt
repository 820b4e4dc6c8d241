-- A time as words say it, on the office's clock: a date, as 2026-10-14, or with a time of day, as 2026-10-14T06:30 or 2026-10-14T06:30:15
-- (ISO 8601).
use Rattle.std.specs.Prelude.{ℕ, ◌+◌, ◌-◌, ◌*◌, ◌==◌, Bool, ◌&&◌, nat_le, nat_lt, if◌then◌else◌, ℤ, pos, int_lt, nat_abs, List, codes, length, take, sum, slice_get}
use Rattle.std.specs.Prelude.{Option, Some, None, unwrap_or, option_map}
use Rattle.std.specs.Option.{option_and_then}
use Rattle.std.specs.Str.{byte}
use Rattle.sip_text.specs.Words.{decimal_of}
use Rattle.sip_text.specs.Splits.{split_at_byte}
use Rattle.sipd_report.specs.declared.calendar.Date.{Date}
use Rattle.sipd_report.specs.Calendar.{days_before_year, days_of_months}

-- ---- numbers

abbrev pub if_below : ℕ → ℕ → Option ℕ
if_below limit n = if nat_lt n limit then Some n else None

-- a number of so many digits, below a limit
abbrev pub number_of : ℕ → ℕ → List ℕ → Option ℕ
number_of width limit text = if length text == width then option_and_then (if_below limit) (decimal_of text) else None

-- ---- dates

-- how many days a month has, 0 where there is none of that number
abbrev pub days_in_month : ℕ → ℕ → ℕ
days_in_month year month = unwrap_or (slice_get (days_of_months year) (month - 1)) 0

-- whether there is such a date, from 1970 on
abbrev pub is_date : Date → Bool
is_date date = nat_le 1970 date.year && nat_le 1 date.month && nat_le 1 date.day && nat_le date.day (days_in_month date.year date.month)

abbrev pub if_date : Date → Option Date
if_date date = if is_date date then Some date else None

-- the date of a year, a month and a day
abbrev pub date_in : List ℕ → List ℕ → List ℕ → Option Date
date_in year month day =
    option_and_then (λ y. option_and_then (λ m. option_and_then (λ d. if_date (record { year = y; month = m; day = d })) (number_of 2 32 day))
    (number_of 2 13 month)) (number_of 4 10000 year)

-- the date that a text says
abbrev pub date_said : List ℕ → Option Date
date_said text =
    option_and_then (λ (y : List ℕ × List ℕ). option_and_then (λ (m : List ℕ × List ℕ). date_in y.0 m.0 m.1) (split_at_byte (byte "-") y.1))
    (split_at_byte (byte "-") text)

-- how many days there are from 1 January of a year up to the first of a month
abbrev pub days_before_month : ℕ → ℕ → ℕ
days_before_month year month = sum (take (month - 1) (days_of_months year))

-- how many days a date is behind 1 January 1970, which is the day 719,162 behind 1 January of the year 1
abbrev pub days_of : Date → ℕ
days_of date = days_before_year date.year + days_before_month date.year date.month + (date.day - 1) - 719162

-- ---- times of day

-- the second of the day, of hour, minute and second
abbrev pub second_in : List ℕ → List ℕ → List ℕ → Option ℕ
second_in hour minute second =
    option_and_then (λ h. option_and_then (λ m. option_map (λ s. 3600 * h + 60 * m + s) (number_of 2 60 second)) (number_of 2 60 minute)) (number_of 2 24 hour)

abbrev pub second_behind : List ℕ → List ℕ → Option (List ℕ × List ℕ) → Option ℕ
second_behind hour rest None = second_in hour rest (codes "00")
second_behind hour rest (Some parts) = second_in hour parts.0 parts.1

-- the second of the day that a text says
abbrev pub second_said : List ℕ → Option ℕ
second_said text =
    option_and_then (λ (parts : List ℕ × List ℕ). second_behind parts.0 parts.1 (split_at_byte (byte ":") parts.1)) (split_at_byte (byte ":") text)

-- ---- times

-- the second of a day, where a text says the day
abbrev pub second_of_day : List ℕ → ℕ → Option ℕ
second_of_day text second = option_map (λ date. 86400 * days_of date + second) (date_said text)

abbrev pub time_with : List ℕ → Option (List ℕ × List ℕ) → Option ℕ
time_with text None = second_of_day text 0
time_with text (Some parts) = option_and_then (second_of_day parts.0) (second_said parts.1)

-- the time that a text says, in seconds since 1970 began on that clock
abbrev pub time_said : List ℕ → Option ℕ
time_said text = time_with text (split_at_byte (byte "T") text)

-- the time that is said, if one is
abbrev pub time_in : Option (List ℕ) → Option ℕ
time_in said = option_and_then time_said said

-- the moment in milliseconds of UTC at which a clock that is so many minutes ahead of it shows a time; the start of 1970, where that would
-- be before
abbrev pub moment_at : ℕ → ℤ → ℕ
moment_at second offset = if int_lt offset (pos 0) then 1000 * (second + 60 * nat_abs offset) else 1000 * (second - 60 * nat_abs offset)
