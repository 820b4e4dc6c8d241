-- A line of a record's file that stands for datagrams which say no message, and the text that a file's bytes stand for (this project's
-- profile).
use Rattle.std.specs.Prelude.{ℕ, ◌^◌, ◌==◌, if◌then◌else◌, List, [], ◌∷◌, ◌++◌, codes, decimal, replicate, Option, Some, None}
use Rattle.std.specs.List.{flat_map}
use Rattle.std.specs.Option.{option_and_then}
use Rattle.std.specs.Str.{bytes_eq}
use Rattle.sip_text.specs.Numbers.{plain_decimal_below}
use Rattle.sip_text.specs.Splits.{split_at_byte}
use Rattle.sip_event.specs.declared.event.Event.{Event}
use Rattle.sip_event.specs.declared.event.Event.TheVariants.{Datagram}
use Rattle.sip_replay_script.specs.Events.{ended}

-- how many they are: 1 to 2^62 - 1, in decimal without leading zeros
abbrev pub count_of : List ℕ → Option ℕ
count_of digits = option_and_then (λ count. if count == 0 then None else Some count) (plain_decimal_below (2 ^ 62) digits)

-- what a line says that is cut at its first space
abbrev pub omitted_in : List ℕ × List ℕ → Option ℕ
omitted_in parts = if bytes_eq parts.0 (codes "omitted") then count_of parts.1 else None

-- for how many datagrams a line stands, without its LF: `omitted COUNT`
abbrev pub omitted_of : List ℕ → Option ℕ
omitted_of line = option_and_then omitted_in (split_at_byte 32 line)

-- that line, without its LF and with it
abbrev pub omitted_line : ℕ → List ℕ
omitted_line count = codes "omitted " ++ decimal count

abbrev pub omitted_text : ℕ → List ℕ
omitted_text count = codes "omitted " ++ decimal count ++ codes "\n"

-- ---- what it stands for

-- A datagram of one byte, which says no message, from nobody's address, before any moment, so that no time passes, with the word 0. It is
-- `left_out` of sip_model.
abbrev pub omitted_datagram : Event
omitted_datagram = Datagram 0 0 (record { ip = 0 ∷ 0 ∷ 0 ∷ 0 ∷ []; port = 1 }) (0 ∷ [])

-- its line
abbrev pub left_out_line : List ℕ
left_out_line = codes "text 0 0.0.0.0:1 00000000000000000000000000000000 \\00"

-- the text of so many of it, each with its LF
abbrev pub left_out_text : ℕ → List ℕ
left_out_text count = flat_map ended (replicate count left_out_line)

-- the lines in the place of one that says such a count, or none
abbrev pub lines_by : List ℕ → Option ℕ → List (List ℕ)
lines_by line None = line ∷ []
lines_by line (Some count) = replicate count left_out_line

-- what stands in the place of a line: so many lines, or the line itself
abbrev pub lines_for : List ℕ → List (List ℕ)
lines_for line = lines_by line (omitted_of line)

-- the text of these lines, each with its LF
abbrev pub text_for : List ℕ → List ℕ
text_for line = flat_map ended (lines_for line)

-- the text that some bytes stand for behind a front of their first line
abbrev pub expanded_on : List ℕ → List ℕ → List ℕ
expanded_on line [] = line
expanded_on line (b ∷ bytes) = if b == 10 then text_for line ++ expanded_on [] bytes else expanded_on (line ++ b ∷ []) bytes

-- The text that a file's bytes stand for, line by line: in the place of each line that LF ends stands what it stands for; what stands
-- behind the last LF stays.
abbrev pub expanded : List ℕ → List ℕ
expanded bytes = expanded_on [] bytes

-- the same behind the front of a line that stays as it is: the rest of that line, and what the lines behind it stand for
abbrev pub passed : List ℕ → List ℕ
passed [] = []
passed (b ∷ bytes) = if b == 10 then 10 ∷ expanded bytes else b ∷ passed bytes
