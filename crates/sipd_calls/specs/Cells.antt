-- A row of the table of calls: a line of at most 80 columns, where no cell is longer than its column; and its head.
use Rattle.std.specs.Prelude.{ℕ, ◌/◌, ◌==◌, Bool, false, ◌&&◌, List, [], ◌∷◌, ◌++◌, codes, decimal, Option, None, Some}
use Rattle.std.specs.Ordering.{int_eq}
use Rattle.sip_audit.specs.Lines.{who_text}
use Rattle.sip_days.specs.declared.call.Ending.{Ending}
use Rattle.sip_days.specs.declared.call.Call.{Call}
use Rattle.sip_days.specs.Results.{result_of, ring_of, talk_of}
use Rattle.sipd_report.specs.Calendar.{date_of}
use Rattle.sipd_report.specs.Cells.{padded}
use Rattle.sipd_report.specs.Chosen.{user_text}
use Rattle.sipd_report.specs.Times.{offset_text}
use Rattle.sipd_calls.specs.declared.cells.OfficeClock.{OfficeClock}
use Rattle.sipd_calls.specs.Choices.{began}
use Rattle.sipd_calls.specs.Moments.{start_text}
use Rattle.sipd_calls.specs.Words.{result_text, ring_text, ruled_text, side_text, talk_text}

-- a cell that others follow
abbrev pub cell : ℕ → List ℕ → List ℕ
cell width text = padded width text ++ codes " "

-- ---- the head

-- the year, and the office's clock
abbrev pub clock_of : Call → OfficeClock
clock_of call = record { year = (date_of (began call / 86400)).year; offset = call.offset }

abbrev pub is_same : OfficeClock → OfficeClock → Bool
is_same before clock = int_eq before.offset clock.offset && before.year == clock.year

-- the same as that of the row in front, if there is one
abbrev pub is_same_clock : Option OfficeClock → OfficeClock → Bool
is_same_clock None clock = false
is_same_clock (Some before) clock = is_same before clock

-- as 2026 UTC+01:00
abbrev pub clock_name : OfficeClock → List ℕ
clock_name clock = decimal clock.year ++ codes " UTC" ++ offset_text clock.offset

-- the names of the columns behind that
abbrev pub names : List ℕ
names = codes "caller   called        rule  result    ring talk    ended\n"

abbrev pub head_row : OfficeClock → List ℕ
head_row clock = cell 6 (codes "number") ++ cell 14 (clock_name clock) ++ names

-- ---- a row

abbrev pub number_cell : ℕ → List ℕ
number_cell number = cell 6 (decimal number)

abbrev pub start_cell : Call → List ℕ
start_cell call = cell 14 (start_text call.offset call.decision.at)

abbrev pub called_cell : Call → List ℕ
called_cell call = cell 13 (user_text call.decision.target)

-- who called whom, and when
abbrev pub asked_cells : Call → List ℕ
asked_cells call = number_cell call.decision.number ++ start_cell call ++ cell 8 (who_text call.decision.who) ++ called_cell call

abbrev pub rule_word : Option (List ℕ) → List ℕ
rule_word None = codes "-"
rule_word (Some rule) = rule

abbrev pub rule_cell : Call → List ℕ
rule_cell call = cell 5 (rule_word (ruled_text call.decision.outcome call.decision.minute))

abbrev pub result_cell : Call → List ℕ
result_cell call = cell 9 (result_text (result_of call))

abbrev pub ring_cell : Option ℕ → List ℕ
ring_cell ring = cell 4 (ring_text ring)

abbrev pub talk_cell : Option ℕ → List ℕ
talk_cell talk = cell 7 (talk_text talk)

-- by which rule, what came of it, how long it rang, and how long it was talked
abbrev pub came_cells : Call → List ℕ
came_cells call = rule_cell call ++ result_cell call ++ ring_cell (ring_of call) ++ talk_cell (talk_of call)

abbrev pub ended_word : Option Ending → List ℕ
ended_word None = []
ended_word (Some ending) = side_text ending.by_caller

abbrev pub ended_cell : Call → List ℕ
ended_cell call = ended_word call.ending ++ 10 ∷ []

-- a row: 6, 14, 8, 13, 5, 9, 4, 7 and 6 columns, with a space between each two
abbrev pub call_row : Call → List ℕ
call_row call = asked_cells call ++ came_cells call ++ ended_cell call
