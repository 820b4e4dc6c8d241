-- The calls of recorded days, as they are shown.
use Rattle.std.specs.Prelude.{◌≡◌, ◌⊎◌, ⊤, ℕ, List, Option, None, Some}
use Rattle.std.specs.Borrow.{Bor}
use Rattle.sip_journal.specs.declared.record_head.RecordHead.{RecordHead}
use Rattle.sip_listener.specs.Heard.{Heard}
use Rattle.sip_days.specs.declared.call.Call.{Call}
use Rattle.sip_days.specs.Calls.{calls_of}
use Rattle.sipd_calls.specs.declared.choice.CallFilter.{CallFilter}
use Rattle.sipd_calls.specs.Program.{objects_text}
use Rattle.sipd_calls.specs.Table.{table_text}
use Rattle.sipd_calls.specs.declared.notation.Notation.{Notation}
use Rattle.sipd_exit.specs.declared.exit.Exit.{Exit}
use Rattle.sipd_exit.specs.declared.exit.Exit.TheVariants.{Memory}
use Rattle.sipd_exit.specs.declared.files.Stated.{Stated}
use Rattle.sipd_telling.specs.Records.{SaysHistory}
use Rattle.sipd_telling.specs.Tellings.{IsUnbegun}
use Rattle.sipd_telling.specs.declared.onward.DayPoint.{DayPoint}

-- the calls that are shown, as a form has them
abbrev pub shown_text : Option Notation → CallFilter → List Call → List ℕ
shown_text None choice calls = table_text choice calls
shown_text (Some notation) choice calls = objects_text notation choice calls

-- how a listener to calls stands behind a step that it doesn't take: nothing is known
abbrev pub forgets : List Call → Heard → List Call → Type 0
forgets old step new = ⊤

-- These are the calls of so many records, which are one history: of the steps of the run over the events of each, from a start with the configuration
-- with which it begins, but for those that the one in front of it told.
pub record AreCallsOf (count : ℕ) (calls : List Call) : Type 0 where
  pub day : List Heard
  pub reached : Option DayPoint
  pub says : SaysHistory count day reached
  pub calls_are : calls ≡ calls_of day

-- none are told: the record has no configuration, or memory ran out
abbrev pub IsNoDay : RecordHead → Option (Bor Stated) → Type 0 → Option ℕ → Option ℕ → Option (List ℕ) → Exit → Type 0
IsNoDay head named has_failed asked asked_then behind exit = (exit ≡ Memory) ⊎ IsUnbegun head named has_failed asked asked_then behind exit
