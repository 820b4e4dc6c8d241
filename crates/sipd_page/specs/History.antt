-- What the page keeps of all records while they are told as one history: the lines of their log, and their calls.
use Rattle.std.specs.Prelude.{◌≡◌, ℕ, false, List, [], ◌∷◌, ◌++◌, fold, Option, None}
use Rattle.sip_audit.specs.declared.record.Record.{Record}
use Rattle.sip_audit.specs.Lines.{line_of}
use Rattle.sip_listener.specs.Heard.{Heard}
use Rattle.sip_days.specs.declared.call.Call.{Call}
use Rattle.sip_days.specs.Calls.{calls_of}
use Rattle.sip_days.specs.Hearing.{adds_calls}
use Rattle.sipd_calls.specs.declared.choice.CallFilter.{CallFilter}
use Rattle.sipd_telling.specs.Records.{SaysHistory}
use Rattle.sipd_telling.specs.declared.onward.DayPoint.{DayPoint}
use Rattle.sipd_page.specs.declared.history.History.{History}
use Rattle.sipd_page.specs.Days.{day_lines}

-- lines, and the one of a record
abbrev pub with_line : List (List ℕ) → Record → List (List ℕ)
with_line lines r = lines ++ line_of r ∷ []

-- it hears a step
pub record HearsHistory (old : History) (step : Heard) (new : History) : Type 0 where
  pub lines : new.lines ≡ fold with_line old.lines step.out.records
  pub calls : adds_calls old.calls step new.calls

-- nothing is kept yet
pub record IsUntold (history : History) : Type 0 where
  pub lines : history.lines ≡ []
  pub calls : history.calls ≡ []

-- each call but those that were asked for a credential
abbrev pub every_call : CallFilter
every_call = record { since = None; until = None; user = None; target = None; from = None; challenged = false }

-- These are the lines and the calls of so many records, which are one history: of the steps of the run over the events of each, from a start with the
-- configuration with which it begins, but for those that the one in front of it told.
pub record AreOfHistory (count : ℕ) (lines : List (List ℕ)) (calls : List Call) : Type 0 where
  pub day : List Heard
  pub reached : Option DayPoint
  pub says : SaysHistory count day reached
  pub lines_are : lines ≡ day_lines day
  pub calls_are : calls ≡ calls_of day
