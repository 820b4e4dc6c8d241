-- The table of calls.
use Rattle.std.specs.Prelude.{ℕ, List, [], ◌∷◌, ◌++◌, if◌then◌else◌, filter, Option, None, Some}
use Rattle.sip_days.specs.declared.call.Call.{Call}
use Rattle.sipd_calls.specs.declared.cells.OfficeClock.{OfficeClock}
use Rattle.sipd_calls.specs.declared.choice.CallFilter.{CallFilter}
use Rattle.sipd_calls.specs.declared.table.Rows.{Rows}
use Rattle.sipd_calls.specs.Cells.{call_row, clock_of, head_row, is_same_clock}
use Rattle.sipd_calls.specs.Choices.{is_shown}
use Rattle.sipd_calls.specs.Totals.{no_totals, totals_of, totals_text, with_call}

-- the head in front of a row, unless that of the row before it stands
abbrev pub head_between : Option OfficeClock → OfficeClock → List ℕ
head_between before clock = if is_same_clock before clock then [] else head_row clock

-- the rows of calls behind one that was shown by a clock
abbrev pub rows_behind : Option OfficeClock → List Call → List ℕ
rows_behind before [] = []
rows_behind before (call ∷ calls) = head_between before (clock_of call) ++ call_row call ++ rows_behind (Some (clock_of call)) calls

-- the table of calls
abbrev pub table_of : List Call → List ℕ
table_of calls = rows_behind None calls ++ totals_text (totals_of calls)

-- the table of those that are shown
abbrev pub table_text : CallFilter → List Call → List ℕ
table_text choice calls = table_of (filter (is_shown choice) calls)

-- ---- inside

-- a row, and its head
abbrev pub row_behind : Rows → Call → List ℕ
row_behind rows call = head_between rows.clock (clock_of call) ++ call_row call

-- what is known of the rows then
abbrev pub rows_with : Rows → Call → Rows
rows_with rows call = record { clock = Some (clock_of call); totals = with_call call rows.totals }

abbrev pub shown_row : CallFilter → Rows → Call → List ℕ
shown_row choice rows call = if is_shown choice call then row_behind rows call else []

abbrev pub shown_with : CallFilter → Rows → Call → Rows
shown_with choice rows call = if is_shown choice call then rows_with rows call else rows

-- what is known of no row
abbrev pub no_rows : Rows
no_rows = record { clock = None; totals = no_totals }

-- all that stands behind rows
abbrev pub left_of : Rows → List Call → List ℕ
left_of rows [] = totals_text rows.totals
left_of rows (call ∷ calls) = row_behind rows call ++ left_of (rows_with rows call) calls

-- the same, of the calls that are shown
abbrev pub rest_of : CallFilter → Rows → List Call → List ℕ
rest_of choice rows [] = totals_text rows.totals
rest_of choice rows (call ∷ calls) = shown_row choice rows call ++ rest_of choice (shown_with choice rows call) calls
