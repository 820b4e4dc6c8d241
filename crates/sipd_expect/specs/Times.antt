-- When a request is to be let through.
use Rattle.std.specs.Prelude.{ℕ, ◌*◌, ◌+◌, ◌==◌, if◌then◌else◌, List, codes, length, Option, Some, None, option_and_then, Result, Ok, Err}
use Rattle.std.specs.Str.{byte, bytes_eq}
use Rattle.sip_text.specs.Numbers.{under}
use Rattle.sip_text.specs.Splits.{split_at_byte}
use Rattle.sip_text.specs.Words.{decimal_of}
use Rattle.sip_matrix.specs.declared.expectation.Times.{Times}
use Rattle.sip_matrix.specs.declared.expectation.Times.TheVariants.{Always, Never, Within}
use Rattle.sipd_expect.specs.declared.error.LineError.{LineError}
use Rattle.sipd_expect.specs.declared.error.LineError.TheVariants.{BadTimes}

abbrev pub hour_of : List ℕ → Option ℕ
hour_of digits = option_and_then (under 24) (decimal_of digits)

-- two digits
abbrev pub minute_of : List ℕ → Option ℕ
minute_of digits = if length digits == 2 then option_and_then (under 60) (decimal_of digits) else None

abbrev pub minute_at : Option ℕ → Option ℕ → Option ℕ
minute_at (Some hour) (Some minute) = Some (hour * 60 + minute)
minute_at hour minute = None

abbrev pub clock_split : Option (List ℕ × List ℕ) → Option ℕ
clock_split None = None
clock_split (Some parts) = minute_at (hour_of parts.0) (minute_of parts.1)

-- `8:05` or `08:05`: a minute of the day
abbrev pub clock_of : List ℕ → Option ℕ
clock_of text = clock_split (split_at_byte (byte ":") text)

abbrev pub between : Option ℕ → Option ℕ → Result Times LineError
between (Some from) (Some until) = if from == until then Err BadTimes else Ok (Within (record { from = from; until = until }))
between from until = Err BadTimes

abbrev pub between_split : Option (List ℕ × List ℕ) → Result Times LineError
between_split None = Err BadTimes
between_split (Some parts) = between (clock_of parts.0) (clock_of parts.1)

-- `always`, `never`, or two different minutes, the second of which is no more meant
abbrev pub times_of : List ℕ → Result Times LineError
times_of text =
    if bytes_eq text (codes "always") then Ok Always
    else if bytes_eq text (codes "never") then Ok Never
    else between_split (split_at_byte (byte "-") text)
