-- Moments as the office's clock shows them.
use Rattle.std.specs.Prelude.{ℕ, ◌+◌, ◌-◌, ◌*◌, ◌/◌, ◌%◌, nat_lt, if◌then◌else◌, ℤ, pos, int_lt, nat_abs, List, [], ◌∷◌, ◌++◌, codes, decimal}
use Rattle.std.specs.Str.{byte}
use Rattle.sipd_report.specs.declared.calendar.Date.{Date}
use Rattle.sipd_report.specs.declared.query.Form.{Form}
use Rattle.sipd_report.specs.declared.query.Form.TheVariants.{Table, Csv}
use Rattle.sipd_report.specs.Calendar.{date_of}

-- a number in two digits or more
abbrev pub two_digits : ℕ → List ℕ
two_digits n = if nat_lt n 10 then byte "0" ∷ decimal n else decimal n

-- a date, as 2026-11-27
abbrev pub date_text : Date → List ℕ
date_text date = decimal date.year ++ codes "-" ++ two_digits date.month ++ codes "-" ++ two_digits date.day

-- the time of day at a second of it, as 14:03:36
abbrev pub clock_text : ℕ → List ℕ
clock_text second = two_digits (second / 3600) ++ codes ":" ++ two_digits (second / 60 % 60) ++ codes ":" ++ two_digits (second % 60)

-- hours and minutes of so many minutes, as 08:00
abbrev pub minutes_text : ℕ → List ℕ
minutes_text minutes = two_digits (minutes / 60) ++ codes ":" ++ two_digits (minutes % 60)

-- how far a clock is ahead of UTC, in minutes, as +01:00
abbrev pub offset_text : ℤ → List ℕ
offset_text offset = (if int_lt offset (pos 0) then byte "-" else byte "+") ∷ minutes_text (nat_abs offset)

-- the seconds since 1970 began that such a clock shows at a moment, milliseconds since 1970 began in UTC; a clock that would show an
-- earlier time shows that start
abbrev pub shown_seconds : ℕ → ℤ → ℕ
shown_seconds at offset =
    if int_lt offset (pos 0) then at / 1000 - 60 * nat_abs offset else at / 1000 + 60 * nat_abs offset

-- date and time of day with a mark between them, at seconds since 1970 began
abbrev pub dated_text : ℕ → ℕ → List ℕ
dated_text mark seconds = date_text (date_of (seconds / 86400)) ++ (mark ∷ []) ++ clock_text (seconds % 86400)

-- what stands between date and time of day; for programs as ISO 8601 has it
abbrev pub mark_of : Form → ℕ
mark_of Table = byte " "
mark_of Csv = byte "T"

-- date and time of day, and the offset of the clock that shows them
abbrev pub moment_text : Form → ℤ → ℕ → List ℕ
moment_text form offset seconds = dated_text (mark_of form) seconds ++ offset_text offset

-- a moment as such a clock shows it
abbrev pub time_text : Form → ℤ → ℕ → List ℕ
time_text form offset at = moment_text form offset (shown_seconds at offset)
