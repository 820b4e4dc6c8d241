-- Moments on the office's clock, and lengths of time.
use Rattle.std.specs.Prelude.{ℕ, ℤ, ◌+◌, ◌/◌, ◌%◌, ◌==◌, if◌then◌else◌, List, [], ◌∷◌, ◌++◌, codes, decimal}
use Rattle.std.specs.Str.{byte}
use Rattle.sipd_report.specs.declared.calendar.Date.{Date}
use Rattle.sipd_report.specs.Calendar.{date_of}
use Rattle.sipd_report.specs.Times.{clock_text, dated_text, offset_text, shown_seconds, two_digits}

-- ---- moments

-- month and day of a date, as 11-27
abbrev pub day_text : Date → List ℕ
day_text date = two_digits date.month ++ codes "-" ++ two_digits date.day

-- seconds since 1970 began, as 11-27 14:03:36
abbrev pub short_text : ℕ → List ℕ
short_text seconds = day_text (date_of (seconds / 86400)) ++ codes " " ++ clock_text (seconds % 86400)

-- a moment in milliseconds, on a clock that is so many minutes ahead of UTC
abbrev pub start_text : ℤ → ℕ → List ℕ
start_text offset at = short_text (shown_seconds at offset)

-- the same with year and offset, as 2026-11-27T14:03:36+01:00 (ISO 8601)
abbrev pub iso_text : ℤ → ℕ → List ℕ
iso_text offset at = dated_text (byte "T") (shown_seconds at offset) ++ offset_text offset

-- how far a clock is ahead of UTC, as a title has it, and the end of its line
abbrev pub zone_text : ℤ → List ℕ
zone_text offset = codes " UTC" ++ offset_text offset ++ 10 ∷ []

-- the moment that a table is of, as 2026-10-14 10:32:00 UTC+01:00
abbrev pub title : ℤ → ℕ → List ℕ
title offset at = dated_text (byte " ") (shown_seconds at offset) ++ zone_text offset

-- ---- lengths

-- a colon, and a number in two digits or more
abbrev pub further_digits : ℕ → List ℕ
further_digits n = codes ":" ++ two_digits n

-- hours, minutes and seconds, as 2:21 or 1:02:21
abbrev pub length_of : ℕ → ℕ → ℕ → List ℕ
length_of hours minutes seconds =
    if hours == 0 then decimal minutes ++ further_digits seconds else decimal hours ++ further_digits minutes ++ further_digits seconds

abbrev pub length_text : ℕ → List ℕ
length_text seconds = length_of (seconds / 3600) (seconds / 60 % 60) (seconds % 60)

-- milliseconds in seconds: the nearest one, and the later one of two
abbrev pub seconds_of : ℕ → ℕ
seconds_of milliseconds = milliseconds / 1000 + (milliseconds % 1000 + 500) / 1000
