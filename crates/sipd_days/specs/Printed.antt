-- What `calls`, `phones` and `now` print. What a file holds no clause can say: for whatever records the files hold, it is printed of these.
use Rattle.std.specs.Prelude.{◌≡◌, ℕ, List, length, map, Option, None, Some, option_map, string_bytes}
use Rattle.std.specs.Io.KnownBytes.{Appends}
use Rattle.sip_days.specs.declared.call.Call.{Call}
use Rattle.sipd_arguments.specs.declared.call.CallsCall.{CallsCall}
use Rattle.sipd_arguments.specs.declared.call.TimeCall.{TimeCall}
use Rattle.sipd_calls.specs.declared.choice.CallFilter.{CallFilter}
use Rattle.sipd_calls.specs.declared.notation.Notation.{Notation}
use Rattle.sipd_calls.specs.Program.{names_text}
use Rattle.sipd_record_files.specs.Named.{AreNamed}
use Rattle.sipd_days.specs.Choosing.{IsChoice, form_of}
use Rattle.sipd_report.specs.Said.{time_in}
use Rattle.sipd_days.specs.DayAt.{IsByClock}
use Rattle.sipd_days.specs.Days.{AreCallsOf, shown_text}
use Rattle.sipd_days.specs.declared.day_at.DayTable.{DayTable}

-- ---- calls

-- the names of the columns were, where programs get it
abbrev pub PrintsNames : Option Notation → Option (List ℕ) → Option (List ℕ) → Type 0
PrintsNames None old new = new ≡ old
PrintsNames (Some notation) old new = Appends old new (names_text notation)

-- all that `calls` asks for was: of the files that its paths name those calls that are chosen, in one text
pub record PrintsCalls (call : CallsCall) (old new : Option (List ℕ)) : Type 0 where
  pub choice : CallFilter
  pub between : Option (List ℕ)
  pub chosen : IsChoice call.chosen choice
  pub names : PrintsNames (form_of call.csv call.json) old between
  pub files : List (List ℕ)
  pub named : AreNamed (map string_bytes call.records.items) files
  pub calls : List Call
  pub told : AreCallsOf (length files) calls
  pub printed : Appends between new (shown_text (form_of call.csv call.json) choice calls)

-- ---- phones and calls at a time

-- all that `phones` or `now` asks for was
pub record PrintsTable (table : DayTable) (call : TimeCall) (old new : Option (List ℕ)) : Type 0 where
  pub text : List ℕ
  pub shown : IsByClock table (form_of call.csv call.json) (time_in (option_map string_bytes call.at)) text None
  pub printed : Appends old new text
