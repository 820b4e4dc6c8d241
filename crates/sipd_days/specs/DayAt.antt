-- What a record says of a time: who was registered then, which calls stood, and what each address did up to it.
use Rattle.std.specs.Prelude.{◌≡◌, ⊤, ℕ, ℤ, List, [], ◌++◌, Option, None, Some, option_map, unwrap_or, length}
use Rattle.std.specs.Borrow.{Bor}
use Rattle.sip_config_types.specs.declared.config.Config.{Config}
use Rattle.sip_model.specs.state.declared.server.Server.{Server}
use Rattle.sip_model.specs.state.declared.proxy_state.ProxyState.{ProxyState}
use Rattle.sip_model.specs.Access.{Access}
use Rattle.sip_model.specs.TimerOrder.{Standing, first_standing}
use Rattle.sip_journal.specs.declared.record_head.RecordHead.{RecordHead}
use Rattle.sipd_telling.specs.Tellings.{server_with}
use Rattle.sip_replay_script.specs.Devices.{later}
use Rattle.sip_replay_script.specs.Lines.{IsSpent, Reading, pending}
use Rattle.sip_listener.specs.Heard.{Heard, heard_of}
use Rattle.sip_days.specs.declared.call.Call.{Call}
use Rattle.sip_days.specs.declared.registered.Registered.{Registered}
use Rattle.sip_days.specs.Calls.{calls_of}
use Rattle.sip_days.specs.Hearing.{adds_calls}
use Rattle.sip_days.specs.Phones.{adds_phones, phones_of}
use Rattle.sipd_calls.specs.declared.notation.Notation.{Notation}
use Rattle.sipd_sources.specs.Table.{sources_text}
use Rattle.sipd_sources.specs.Told.{Known, adds_sources, none as no_sources, sources_of}
use Rattle.sipd_standing.specs.PhoneTable.{phones_text}
use Rattle.sipd_standing.specs.Standing.{standing_text, tables_text}
use Rattle.sipd_exit.specs.declared.exit.Exit.{Exit}
use Rattle.sipd_exit.specs.declared.files.Stated.{Stated}
use Rattle.sipd_old_record.specs.Own.{unread}
use Rattle.sipd_old_record.specs.FirstConfiguration.{BeginsWith}
use Rattle.sipd_days.specs.Days.{forgets}
use Rattle.sipd_report.specs.Said.{moment_at}
use Rattle.sipd_days.specs.Standing.{Reaches, StandsBefore, StandsThere}
use Rattle.sipd_days.specs.declared.day_at.DayTable.{DayTable}
use Rattle.sipd_days.specs.declared.day_at.DayTable.TheVariants as tables

-- ---- what a listener keeps of a record

-- What a server says that takes what is left of a record, and what a listener keeps of its steps, at a moment: their text, and the office's clock by
-- the configuration that is in force there.
pub record IsTold {L : Type 0} (hears refuses : L → Heard → L → Type 0) (none : L) (text_of : Server → ProxyState → ℕ → L → List ℕ) (server : Server)
    (old : Standing) (spent : Type 0) (record_bytes : Option (List ℕ)) (lines : ℕ) (at : Option ℕ) (text : List ℕ) (offset : ℤ) (end : Option Exit) : Type 0 where
  pub server_then : Server
  pub standing : Standing
  pub kept : L
  pub moment : ℕ
  pub reaches : Reaches end hears refuses server server_then old standing spent record_bytes lines at none kept ⊥ moment
  pub offset_is : offset ≡ server_then.config.offset
  pub text_is : text ≡ text_of server_then standing.state moment kept

-- From a start on the record was told up to there, and what is kept is that of exactly the steps that were told: of the run over its events, and of
-- what was due by then. Each step of that run is lawful by its history.
pub record KeepsAll {L : Type 0} (hears : L → Heard → L → Type 0) (none : L) (of_day : List Heard → L) (server server_then : Server) (first : ℕ)
    (standing : Standing) (record_bytes : Option (List ℕ)) (lines : ℕ) (at : Option ℕ) (kept : L) (moment : ℕ) : Type 0 where
  pub there : StandsThere hears server server_then (first_standing first) standing record_bytes lines at none kept moment
  pub kept_is : kept ≡ of_day (heard_of (there.stood.later ++ there.stood.told.retold.takes.history))
  pub access : Access server there.stood.told.retold.takes.history

-- as far as the record was told
abbrev pub KeepsTo : {L : Type 0} → Option Exit → (L → Heard → L → Type 0) → (L → Heard → L → Type 0) → L → (List Heard → L) → Server → Server → ℕ → Standing
    → Type 0 → Option (List ℕ) → ℕ → Option ℕ → L → ℕ → Type 0
KeepsTo None hears refuses none of_day server server_then first standing spent record_bytes lines at kept moment =
    KeepsAll hears none of_day server server_then first standing record_bytes lines at kept moment
KeepsTo (Some exit) hears refuses none of_day server server_then first standing spent record_bytes lines at kept moment =
    StandsBefore hears refuses server server_then (first_standing first) standing spent record_bytes lines at none kept ⊥ exit moment

-- ---- a record at a time

-- The text of what a record says at a time, of a clock that is so many minutes ahead of UTC, or, where none is given, of that of the configuration
-- with which it begins; where no time is given, at its end.
pub record IsDayAt {L : Type 0} (hears refuses : L → Heard → L → Type 0) (none : L) (of_day : List Heard → L) (text_of : Server → ProxyState → ℕ → L → List ℕ)
    (head : RecordHead) (named : Option (Bor Stated)) (has_failed : Type 0) (asked asked_then : Option ℕ) (behind : Option (List ℕ)) (time : Option ℕ)
    (clock : Option ℤ) (text : List ℕ) (taken offset : ℤ) (end : Option Exit) : Type 0 where
  pub config : Config
  pub lines : Reading
  pub rest : Option (List ℕ)
  pub begins : BeginsWith head.digest named unread lines behind rest config
  pub taken_is : taken ≡ unwrap_or clock config.offset
  pub asks : ℕ
  pub left_of : later asks asked_then ≡ later unread.asks asked
  pub server_then : Server
  pub standing : Standing
  pub kept : L
  pub moment : ℕ
  pub keeps : KeepsTo end hears refuses none of_day (server_with config head.word) server_then head.first standing (IsSpent has_failed asks) (pending lines rest)
      lines.number (option_map (λ t. moment_at t taken) time) kept moment
  pub offset_is : offset ≡ server_then.config.offset
  pub text_is : text ≡ text_of server_then standing.state moment kept

-- ---- the three tables

-- who is registered with a server
abbrev pub phones_in : Option Notation → Server → ProxyState → ℕ → List Registered → List ℕ
phones_in form server state at rows = phones_text form server state at rows

-- the calls that ring or are talked, and how full the tables of the server are
abbrev pub calls_in : Option Notation → Server → ProxyState → ℕ → List Call → List ℕ
calls_in form server state at rows =
    standing_text form server.config.offset at rows ++ tables_text form (length state.requests) (length state.dialogs)

-- the addresses from which datagrams came
abbrev pub sources_in : Option Notation → Server → ProxyState → ℕ → Known → List ℕ
sources_in form server state at known = sources_text form server.config.offset at known

-- how a listener to registrations stands behind a step that it doesn't take: nothing is known
abbrev pub forgets_phones : List Registered → Heard → List Registered → Type 0
forgets_phones old step new = ⊤

-- nor is of one to addresses
abbrev pub forgets_sources : Known → Heard → Known → Type 0
forgets_sources old step new = ⊤

-- what a server says of a table that takes what is left of a record
abbrev pub IsTableTold : DayTable → Option Notation → Server → Standing → Type 0 → Option (List ℕ) → ℕ → Option ℕ → List ℕ → ℤ → Option Exit → Type 0
IsTableTold tables.Phones form server old spent record_bytes lines at text offset end =
    IsTold adds_phones forgets_phones [] (phones_in form) server old spent record_bytes lines at text offset end
IsTableTold tables.Standing form server old spent record_bytes lines at text offset end =
    IsTold adds_calls forgets [] (calls_in form) server old spent record_bytes lines at text offset end
IsTableTold (tables.Sources filter) form server old spent record_bytes lines at text offset end =
    IsTold adds_sources forgets_sources (no_sources filter) (sources_in form) server old spent record_bytes lines at text offset end

-- the text of a table
abbrev pub IsTableAt : DayTable → Option Notation → RecordHead → Option (Bor Stated) → Type 0 → Option ℕ → Option ℕ → Option (List ℕ) → Option ℕ → Option ℤ
    → List ℕ → ℤ → ℤ → Option Exit → Type 0
IsTableAt tables.Phones form head named has_failed asked asked_then behind time clock text taken offset end =
    IsDayAt adds_phones forgets_phones [] phones_of (phones_in form) head named has_failed asked asked_then behind time clock text taken offset end
IsTableAt tables.Standing form head named has_failed asked asked_then behind time clock text taken offset end =
    IsDayAt adds_calls forgets [] calls_of (calls_in form) head named has_failed asked asked_then behind time clock text taken offset end
IsTableAt (tables.Sources filter) form head named has_failed asked asked_then behind time clock text taken offset end =
    IsDayAt adds_sources forgets_sources (no_sources filter) (sources_of filter) (sources_in form) head named has_failed asked asked_then behind time clock
    text taken offset end

-- ---- a record in a file

-- It is that of a record, for whatever the file holds: that no clause can say.
pub record WasTableAt (table : DayTable) (form : Option Notation) (time : Option ℕ) (clock : Option ℤ) (text : List ℕ) (taken offset : ℤ) : Type 0 where
  pub head : RecordHead
  pub named : Option (Bor Stated)
  pub behind : Option (List ℕ)
  pub shown : IsTableAt table form head named ⊥ None None behind time clock text taken offset None

-- where it was told up to the time
abbrev pub WasTableIf : DayTable → Option Notation → Option ℕ → Option ℤ → List ℕ → ℤ → ℤ → Option Exit → Type 0
WasTableIf table form time clock text taken offset None = WasTableAt table form time clock text taken offset
WasTableIf table form time clock text taken offset (Some exit) = ⊤

-- The time is one of the clock by the configuration that is in force then: where that isn't the clock with which the record begins, it was told once
-- more by the one that was in force when it was told first.
pub data IsByClock (table : DayTable) (form : Option Notation) (time : Option ℕ) (text : List ℕ) (end : Option Exit) : Type 0 where
  OnOwnClock : (clock : ℤ) → WasTableIf table form time None text clock clock end → IsByClock table form time text end
  OnOtherClock : (own clock taken offset : ℤ) (first : List ℕ) (first_end : Option Exit) → WasTableIf table form time None first own clock first_end
      → WasTableIf table form time (Some clock) text taken offset end → IsByClock table form time text end
