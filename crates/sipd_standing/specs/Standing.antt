-- The calls that ring or are talked at a moment.
use Rattle.std.specs.Prelude.{ℕ, ℤ, ◌-◌, Bool, true, false, if◌then◌else◌, List, [], ◌∷◌, ◌++◌, codes, decimal, Option, None, Some, option_map}
use Rattle.std.specs.List.{flat_map}
use Rattle.sip_audit.specs.Lines.{who_text}
use Rattle.sip_audit.specs.declared.record.AuditOutcome.{AuditOutcome}
use Rattle.sip_audit.specs.declared.record.AuditOutcome.TheVariants as outcomes
use Rattle.sip_days.specs.declared.call.Answer.{Answer}
use Rattle.sip_days.specs.declared.call.Call.{Call}
use Rattle.sip_days.specs.declared.call.Ending.{Ending}
use Rattle.sip_days.specs.declared.call_result.CallResult.{CallResult}
use Rattle.sip_days.specs.declared.call_result.CallResult.TheVariants.{Open, Answered, Busy, NoAnswer, Cancelled, Denied, Challenged, Other}
use Rattle.sip_days.specs.Results.{result_of}
use Rattle.sipd_calls.specs.Moments.{length_text, seconds_of, start_text, title}
use Rattle.sipd_calls.specs.declared.notation.Notation.{Notation}
use Rattle.sipd_calls.specs.Cells.{cell, number_cell, rule_cell}
use Rattle.sipd_report.specs.Chosen.{user_text}
use Rattle.sipd_standing.specs.declared.standing.Standing.{Standing}
use Rattle.sipd_standing.specs.declared.standing.Standing.TheVariants.{Rings, Talked}
use Rattle.sipd_standing.specs.Program.{columns, object_text}

-- ---- how a call stands

-- the moment of the answer, where no BYE came behind it
abbrev pub answered_at : Option Answer → Option Ending → Option ℕ
answered_at None ending = None
answered_at (Some answer) None = Some answer.at
answered_at (Some answer) (Some ending) = None

abbrev pub talked_since : Call → Option ℕ
talked_since call = answered_at call.answer call.ending

-- it was sent on
abbrev pub is_sent : AuditOutcome → Bool
is_sent (outcomes.Challenge status) = false
is_sent (outcomes.Deny rule) = false
is_sent (outcomes.Sent rule targets) = true
is_sent (outcomes.Answer rule status) = false

abbrev pub ringing : Call → Option Standing
ringing call = if is_sent call.decision.outcome then Some (Rings call.decision.at) else None

-- A call rings that was sent on, and has no final answer; it is talked where it was answered with a 2xx, and no BYE came.
abbrev pub standing_by : CallResult → Call → Option Standing
standing_by Open call = ringing call
standing_by Answered call = option_map Talked (talked_since call)
standing_by Busy call = None
standing_by NoAnswer call = None
standing_by Cancelled call = None
standing_by Denied call = None
standing_by Challenged call = None
standing_by (Other status) call = None

abbrev pub standing_of : Call → Option Standing
standing_of call = standing_by (result_of call) call

-- ---- the table

-- the names of the columns
abbrev pub names : List ℕ
names = codes "number since          caller       called               rule  state   for\n"

abbrev pub since_cell : Call → ℕ → List ℕ
since_cell call since = cell 14 (start_text call.offset since)

abbrev pub called_cell : Call → List ℕ
called_cell call = cell 20 (user_text call.decision.target)

-- whom a call is from and to, and by which rule
abbrev pub side_cells : Call → List ℕ
side_cells call = cell 12 (who_text call.decision.who) ++ called_cell call ++ rule_cell call

-- for how long it has stood so, to the nearest second
abbrev pub for_cell : ℕ → List ℕ
for_cell milliseconds = length_text (seconds_of milliseconds) ++ 10 ∷ []

-- a row: 6, 14, 12, 20, 5, 7 and up to 9 columns, with a space between each two
abbrev pub standing_row : ℕ → Call → List ℕ → ℕ → List ℕ
standing_row at call word since =
    number_cell call.decision.number ++ since_cell call since ++ side_cells call ++ cell 7 word ++ for_cell (at - since)

-- a row of the table, or what programs get
abbrev pub row_in : Option Notation → ℕ → Call → List ℕ → ℕ → List ℕ
row_in None at call word since = standing_row at call word since
row_in (Some notation) at call word since = object_text notation at call word since

abbrev pub row_if : Option Notation → ℕ → Call → Option Standing → List ℕ
row_if form at call None = []
row_if form at call (Some (Rings since)) = row_in form at call (codes "rings") since
row_if form at call (Some (Talked since)) = row_in form at call (codes "talks") since

-- the row of a call that isn't over
abbrev pub if_standing : Option Notation → ℕ → Call → List ℕ
if_standing form at call = row_if form at call (standing_of call)

-- what stands above the rows
abbrev pub head_in : Option Notation → ℤ → ℕ → List ℕ
head_in None offset at = title offset at ++ names
head_in (Some notation) offset at = columns notation

-- the calls that ring or are talked, on a clock that is so many minutes ahead of UTC
abbrev pub standing_text : Option Notation → ℤ → ℕ → List Call → List ℕ
standing_text form offset at calls = head_in form offset at ++ flat_map (if_standing form at) calls

-- ---- how full the tables are

-- a count behind its name, and what stands behind it
abbrev pub count_text : List ℕ → ℕ → List ℕ → List ℕ
count_text name count rest = name ++ decimal count ++ rest

-- how many requests are open of the 1,024 that may be, and how many dialogs stand of the 4,096
abbrev pub full_text : ℕ → ℕ → List ℕ
full_text requests dialogs =
    count_text (codes "open requests: ") requests (codes " of 1024; ") ++ count_text (codes "dialogs: ") dialogs (codes " of 4096\n")

-- the same behind a table; programs get rows alone
abbrev pub tables_text : Option Notation → ℕ → ℕ → List ℕ
tables_text None requests dialogs = full_text requests dialogs
tables_text (Some notation) requests dialogs = []
