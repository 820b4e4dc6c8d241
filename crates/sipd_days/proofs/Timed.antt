-- A record at a time.
use Rattle.std.proofs.Common.{◌≡◌, ◌∙◌, inl, refl, sym, ap, subst, ℕ, ℤ, Result, Ok, Err, List, [], ◌++◌, Option, None, Some}
use Rattle.std.specs.Prelude.{IfErr, IfNone, IfOk, length, option_map, unwrap_or}
use Rattle.std.specs.Borrow.{Bor}
use Rattle.sip_config_types.specs.declared.config.Config.{Config}
use Rattle.sip_model.specs.state.declared.server.Server.{Server}
use Rattle.sip_model.specs.state.declared.proxy_state.ProxyState.{ProxyState}
use Rattle.sip_model.specs.Run.{Link}
use Rattle.sip_model.specs.TimerOrder.{Standing, first_standing}
use Rattle.sip_journal.specs.declared.record_head.RecordHead.{RecordHead}
use Rattle.sip_replay_script.specs.Devices.{later}
use Rattle.sip_replay_script.specs.Lines.{IsSpent, Reading, pending}
use Rattle.sip_listener.specs.Heard.{Heard, Tells, heard_of}
use Rattle.sipd_telling.proofs.of_retell.{told_both}
use Rattle.sip_days.specs.declared.call.Call.{Call}
use Rattle.sip_days.specs.Calls.{calls_of}
use Rattle.sip_days.specs.Hearing.{adds_calls}
use Rattle.sip_days.specs.Phones.{adds_phones, phones_of}
use Rattle.sipd_calls.specs.declared.notation.Notation.{Notation}
use Rattle.sipd_sources.specs.Table.{sources_text}
use Rattle.sipd_sources.specs.declared.filter.SourceFilter.{SourceFilter}
use Rattle.sipd_sources.specs.Told.{Known, adds_sources, none as no_sources, sources_of}
use Rattle.sipd_standing.specs.Standing.{standing_text, tables_text}
use Rattle.sipd_exit.specs.declared.exit.Exit.{Exit}
use Rattle.sipd_exit.specs.declared.exit.Exit.TheVariants.{Memory}
use Rattle.sipd_exit.specs.declared.files.Stated.{Stated}
use Rattle.sipd_old_record.specs.Own.{unread}
use Rattle.sipd_telling.proofs.Shown.{RunsAreLawful}
use Rattle.sipd_days.specs.Days.{IsNoDay, forgets}
use Rattle.sipd_days.specs.DayAt.{IsByClock, OnOwnClock, OnOtherClock, IsDayAt, IsTableAt, IsTableTold, IsTold, KeepsAll, KeepsTo, WasTableIf, calls_in, forgets_phones, forgets_sources, phones_in, sources_in}
use Rattle.sipd_report.specs.Said.{moment_at}
use Rattle.sipd_days.specs.Standing.{Reaches, StandsThere}
use Rattle.sipd_telling.specs.Tellings.{IsBegun, server_with}
use Rattle.sipd_days.specs.declared.day_at.DayAt.{DayAt}
use Rattle.sipd_days.specs.declared.day_at.DayTable.{DayTable}
use Rattle.sipd_days.specs.declared.day_at.DayTable.TheVariants as tables

-- ---- what is kept

module _ {L : Type 0} (hears refuses : L → Heard → L → Type 0) (none : L) (of_day : List Heard → L) where
  -- what a law says of a listener
  abbrev pub IsKept : Type 0
  IsKept = (kept : L) (history : List Link) → Tells hears none kept history → kept ≡ of_day (heard_of history)

  keeps_all : RunsAreLawful → IsKept → (server server_then : Server) (first : ℕ) (new : Standing) (record_bytes : Option (List ℕ)) (lines : ℕ) (at : Option ℕ)
      (kept : L) (moment : ℕ) → StandsThere hears server server_then (first_standing first) new record_bytes lines at none kept moment
      → KeepsAll hears none of_day server server_then first new record_bytes lines at kept moment
  keeps_all lawful law server server_then first new record_bytes lines at kept moment h = record {
    there = h;
    kept_is =
        law kept (h.stood.later ++ h.stood.told.retold.takes.history)
        (told_both hears none h.stood.heard_half kept h.stood.told.retold.takes.history h.stood.later h.stood.told.retold.takes.told h.stood.told_later);
    access =
        (lawful server server_then first h.stood.half h.stood.told.retold.takes.items h.stood.told.retold.takes.history h.stood.told.retold.takes.goes).access;
  }

  keeps_by : RunsAreLawful → IsKept → (end : Option Exit) (server server_then : Server) (first : ℕ) (new : Standing) (spent : Type 0) (record_bytes : Option
      (List ℕ)) (lines : ℕ) (at : Option ℕ) (kept : L) (moment : ℕ)
      → Reaches end hears refuses server server_then (first_standing first) new spent record_bytes lines at none kept ⊥ moment
      → KeepsTo end hears refuses none of_day server server_then first new spent record_bytes lines at kept moment
  keeps_by lawful law None server server_then first new spent record_bytes lines at kept moment h =
      keeps_all lawful law server server_then first new record_bytes lines at kept moment h
  keeps_by lawful law (Some exit) server server_then first new spent record_bytes lines at kept moment h = h

  -- of a server that begins
  keeps_begun : RunsAreLawful → IsKept → (end : Option Exit) (server own server_then : Server) (first : ℕ) (old new : Standing) (spent : Type 0) (record_bytes : Option
      (List ℕ)) (lines : ℕ) (at asked : Option ℕ) (kept : L) (moment : ℕ) → server ≡ own → old ≡ first_standing first → at ≡ asked
      → Reaches end hears refuses server server_then old new spent record_bytes lines at none kept ⊥ moment
      → KeepsTo end hears refuses none of_day own server_then first new spent record_bytes lines asked kept moment
  keeps_begun lawful law end server own server_then first old new spent record_bytes lines at asked kept moment is starts same h =
      keeps_by lawful law end own server_then first new spent record_bytes lines asked kept moment
      (subst (λ (s : Server). Reaches end hears refuses s server_then (first_standing first) new spent record_bytes lines asked none kept ⊥ moment) is
      (subst (λ (x : Standing). Reaches end hears refuses server server_then x new spent record_bytes lines asked none kept ⊥ moment) starts
      (subst (λ (a : Option ℕ). Reaches end hears refuses server server_then old new spent record_bytes lines a none kept ⊥ moment) same h)))

  -- ---- a day

  module _ (text_of : Server → ProxyState → ℕ → L → List ℕ) where
    pub shown_at : RunsAreLawful → IsKept → (result : Result DayAt Exit) (head : RecordHead) (named : Option (Bor Stated)) (has_failed : Type 0) (asks : ℕ)
        (asked asked_then : Option ℕ) (server : Server) (old : Standing) (lines : Reading) (before rest : Option (List ℕ)) (time : Option ℕ) (clock : Option ℤ)
        (taken : ℤ) → IsBegun head named server old lines before rest → later asks asked_then ≡ later unread.asks asked
        → taken ≡ unwrap_or clock server.config.offset
        → IfOk result (λ (day : DayAt). IsTold hears refuses none text_of server old (IsSpent has_failed asks) (pending lines rest) lines.number
        (option_map (λ t. moment_at t taken) time) day.text day.in_force.ahead day.end)
        → IfOk result (λ (day : DayAt). day.taken.ahead ≡ taken)
        → IfOk result (λ (day : DayAt). IsDayAt hears refuses none of_day text_of head named has_failed asked asked_then before time clock day.text
        day.taken.ahead day.in_force.ahead day.end)
    shown_at lawful law (Ok day) head named has_failed asks asked asked_then server old lines before rest time clock taken begun left by told same = record {
      config = begun.config;
      lines = lines;
      rest = rest;
      begins = begun.begins;
      taken_is = same ∙ by ∙ ap (λ (s : Server). unwrap_or clock s.config.offset) begun.server_is;
      asks = asks;
      left_of = left;
      server_then = told.server_then;
      standing = told.standing;
      kept = told.kept;
      moment = told.moment;
      keeps =
          keeps_begun lawful law day.end server (server_with begun.config head.word) told.server_then head.first old told.standing (IsSpent has_failed asks)
          (pending lines rest) lines.number (option_map (λ t. moment_at t taken) time) (option_map (λ t. moment_at t day.taken.ahead) time) told.kept told.moment
          begun.server_is begun.starts (ap (λ (x : ℤ). option_map (λ t. moment_at t x) time) (sym same)) told.reaches;
      offset_is = told.offset_is;
      text_is = told.text_is;
    }
    shown_at lawful law (Err e) head named has_failed asks asked asked_then server old lines before rest time clock taken begun left by told same = tt

    -- it doesn't matter by which reader it was told, where it was told up to there
    pub by_any_reader : (head : RecordHead) (named : Option (Bor Stated)) (has_failed : Type 0) (asked asked_then : Option ℕ) (behind : Option
        (List ℕ)) (time : Option ℕ) (clock : Option ℤ) (text : List ℕ) (taken offset : ℤ)
        → IsDayAt hears refuses none of_day text_of head named has_failed asked asked_then behind time clock text taken offset None
        → IsDayAt hears refuses none of_day text_of head named ⊥ None None behind time clock text taken offset None
    by_any_reader head named has_failed asked asked_then behind time clock text taken offset h = record {
      config = h.config;
      lines = h.lines;
      rest = h.rest;
      begins = h.begins;
      taken_is = h.taken_is;
      asks = h.asks;
      left_of = refl;
      server_then = h.server_then;
      standing = h.standing;
      kept = h.kept;
      moment = h.moment;
      keeps = h.keeps;
      offset_is = h.offset_is;
      text_is = h.text_is;
    }

-- The text of a table was made of what a server says that was told up to there, and of what is kept.
pub told_day : {L E : Type 0} (hears refuses : L → Heard → L → Type 0) (none : L) (text_of : Server → ProxyState → ℕ → L → List ℕ) (server server_then : Server)
    (old new : Standing) (spent : Type 0) (record_bytes : Option (List ℕ)) (lines : ℕ) (at : Option ℕ) (kept : L) (moment : ℕ) (text : Result (List ℕ) E)
    (result : Result DayAt Exit) (in_force : ℤ) (end : Option Exit)
    → Reaches end hears refuses server server_then old new spent record_bytes lines at none kept ⊥ moment → in_force ≡ server_then.config.offset
    → IfOk text (λ t. t ≡ text_of server_then new.state moment kept) → IfOk result (λ (day : DayAt). text ≡ Ok day.text)
    → IfOk result (λ (day : DayAt). day.in_force.ahead ≡ in_force) → IfOk result (λ (day : DayAt). day.end ≡ end)
    → IfOk result (λ (day : DayAt). IsTold hears refuses none text_of server old spent record_bytes lines at day.text day.in_force.ahead day.end)
told_day {L} {E} hears refuses none text_of server server_then old new spent record_bytes lines at kept moment text (Ok day) in_force end reaches offset says is by
    ends =
    record {
      server_then = server_then;
      standing = new;
      kept = kept;
      moment = moment;
      reaches =
          subst (λ (e : Option Exit). Reaches e hears refuses server server_then old new spent record_bytes lines at none kept ⊥ moment) (sym ends) reaches;
      offset_is = by ∙ offset;
      text_is = subst (λ (r : Result (List ℕ) E). IfOk r (λ t. t ≡ text_of server_then new.state moment kept)) is says;
    }
told_day hears refuses none text_of server server_then old new spent record_bytes lines at kept moment text (Err e) in_force end reaches offset says is by ends =
    tt

-- each of the tables
pub table_shown : (table : DayTable) (form : Option Notation) → RunsAreLawful → IsKept adds_phones forgets_phones [] phones_of
    → IsKept adds_calls forgets [] calls_of
    → ((filter : SourceFilter) → IsKept adds_sources forgets_sources (no_sources filter) (sources_of filter))
    → (result : Result DayAt Exit) (head : RecordHead) (named : Option (Bor Stated)) (has_failed : Type 0) (asks : ℕ) (asked asked_then : Option ℕ)
    (server : Server) (old : Standing) (lines : Reading) (before rest : Option (List ℕ)) (time : Option ℕ) (clock : Option ℤ) (taken : ℤ)
    → IsBegun head named server old lines before rest → later asks asked_then ≡ later unread.asks asked → taken ≡ unwrap_or clock server.config.offset
    → IfOk result (λ (day : DayAt). IsTableTold table form server old (IsSpent has_failed asks) (pending lines rest) lines.number
    (option_map (λ t. moment_at t taken) time) day.text day.in_force.ahead day.end)
    → IfOk result (λ (day : DayAt). day.taken.ahead ≡ taken)
    → IfOk result (λ (day : DayAt). IsTableAt table form head named has_failed asked asked_then before time clock day.text day.taken.ahead day.in_force.ahead
    day.end)
table_shown tables.Phones form lawful phones calls sources = shown_at adds_phones forgets_phones [] phones_of (phones_in form) lawful phones
table_shown tables.Standing form lawful phones calls sources = shown_at adds_calls forgets [] calls_of (calls_in form) lawful calls
table_shown (tables.Sources filter) form lawful phones calls sources =
    shown_at adds_sources forgets_sources (no_sources filter) (sources_of filter) (sources_in form) lawful (sources filter)

-- memory ran out
pub no_text : {X : Type 0} (result : Result X Exit) (head : RecordHead) (named : Option (Bor Stated)) (has_failed : Type 0) (asked asked_then : Option ℕ) (behind : Option
    (List ℕ)) → IfErr result (λ exit. exit ≡ Memory) → IfErr result (IsNoDay head named has_failed asked asked_then behind)
no_text (Ok x) head named has_failed asked asked_then behind h = tt
no_text (Err exit) head named has_failed asked asked_then behind h = inl h

-- the calls that stand on the clock of a server, and its tables
pub on_clock : (form : Option Notation) (at : ℕ) (shown calls : List Call) (config own : Config) (requests dialogs : ℕ) (state : ProxyState) (text : List ℕ)
    → config ≡ own → shown ≡ calls → requests ≡ length state.requests → dialogs ≡ length state.dialogs
    → text ≡ standing_text form config.offset at shown ++ tables_text form requests dialogs
    → text ≡ standing_text form own.offset at calls ++ tables_text form (length state.requests) (length state.dialogs)
on_clock form at shown calls config own requests dialogs state text is same held stand h =
    h ∙ ap (λ (c : Config). standing_text form c.offset at shown ++ tables_text form requests dialogs) is
    ∙ ap (λ (l : List Call). standing_text form own.offset at l ++ tables_text form requests dialogs) same
    ∙ ap (λ (n : ℕ). standing_text form own.offset at calls ++ tables_text form n dialogs) held
    ∙ ap (λ (n : ℕ). standing_text form own.offset at calls ++ tables_text form (length state.requests) n) stand

-- the addresses on the clock of a server
pub addresses_on_clock : (form : Option Notation) (at : ℕ) (known : Known) (config own : Config) (text : List ℕ) → config ≡ own
    → text ≡ sources_text form config.offset at known → text ≡ sources_text form own.offset at known
addresses_on_clock form at known config own text is h = h ∙ ap (λ (c : Config). sources_text form c.offset at known) is

-- ---- in a file

table_any : (table : DayTable) (form : Option Notation) (head : RecordHead) (named : Option (Bor Stated)) (has_failed : Type 0) (asked asked_then : Option
    ℕ) (behind : Option (List ℕ)) (time : Option ℕ) (clock : Option ℤ) (text : List ℕ) (taken offset : ℤ)
    → IsTableAt table form head named has_failed asked asked_then behind time clock text taken offset None
    → IsTableAt table form head named ⊥ None None behind time clock text taken offset None
table_any tables.Phones form head named has_failed asked asked_then behind time clock text taken offset h =
    by_any_reader _ _ _ _ _ head named has_failed asked asked_then behind time clock text taken offset h
table_any tables.Standing form head named has_failed asked asked_then behind time clock text taken offset h =
    by_any_reader _ _ _ _ _ head named has_failed asked asked_then behind time clock text taken offset h
table_any (tables.Sources filter) form head named has_failed asked asked_then behind time clock text taken offset h =
    by_any_reader _ _ _ _ _ head named has_failed asked asked_then behind time clock text taken offset h

table_by : (end : Option Exit) (table : DayTable) (form : Option Notation) (head : RecordHead) (named : Option (Bor Stated)) (has_failed : Type 0)
    (asked asked_then : Option ℕ) (behind : Option (List ℕ)) (time : Option ℕ) (clock : Option ℤ) (text : List ℕ) (taken offset : ℤ)
    → IsTableAt table form head named has_failed asked asked_then behind time clock text taken offset end
    → WasTableIf table form time clock text taken offset end
table_by None table form head named has_failed asked asked_then behind time clock text taken offset h =
    record { head = head; named = named; behind = behind; shown = table_any table form head named has_failed asked asked_then behind time clock text taken offset h }
table_by (Some exit) table form head named has_failed asked asked_then behind time clock text taken offset h = tt

-- a table of some record
pub was_table : (result : Result DayAt Exit) (table : DayTable) (form : Option Notation) (head : RecordHead) (named : Option (Bor Stated)) (has_failed : Type 0)
    (asked asked_then : Option ℕ) (behind : Option (List ℕ)) (time : Option ℕ) (clock : Option ℤ)
    → IfOk result (λ (day : DayAt). IsTableAt table form head named has_failed asked asked_then behind time clock day.text day.taken.ahead day.in_force.ahead day.end)
    → IfOk result (λ (day : DayAt). WasTableIf table form time clock day.text day.taken.ahead day.in_force.ahead day.end)
was_table (Ok day) table form head named has_failed asked asked_then behind time clock h =
    table_by day.end table form head named has_failed asked asked_then behind time clock day.text day.taken.ahead day.in_force.ahead h
was_table (Err e) table form head named has_failed asked asked_then behind time clock h = tt

-- the program ends at another line of the file
other_end : (end other : Option Exit) (table : DayTable) (form : Option Notation) (time : Option ℕ) (clock : Option ℤ) (text : List ℕ) (taken offset : ℤ)
    → IfNone other (end ≡ None) → WasTableIf table form time clock text taken offset end → WasTableIf table form time clock text taken offset other
other_end end None table form time clock text taken offset is h = subst (λ (e : Option Exit). WasTableIf table form time clock text taken offset e) is h
other_end end (Some exit) table form time clock text taken offset is h = tt

pub in_its_file : (day other : DayAt) (table : DayTable) (form : Option Notation) (time : Option ℕ) (clock : Option ℤ) → other.text ≡ day.text
    → other.taken.ahead ≡ day.taken.ahead → other.in_force.ahead ≡ day.in_force.ahead → IfNone other.end (day.end ≡ None)
    → WasTableIf table form time clock day.text day.taken.ahead day.in_force.ahead day.end
    → WasTableIf table form time clock other.text other.taken.ahead other.in_force.ahead other.end
in_its_file day other table form time clock text taken offset is h =
    subst (λ (t : List ℕ). WasTableIf table form time clock t other.taken.ahead other.in_force.ahead other.end) (sym text)
    (subst (λ (x : ℤ). WasTableIf table form time clock day.text x other.in_force.ahead other.end) (sym taken)
    (subst (λ (x : ℤ). WasTableIf table form time clock day.text day.taken.ahead x other.end) (sym offset)
    (other_end day.end other.end table form time clock day.text day.taken.ahead day.in_force.ahead is h)))

-- ---- by the clock in force

pub own_clock : (day : DayAt) (table : DayTable) (form : Option Notation) (time : Option ℕ) → day.in_force.ahead ≡ day.taken.ahead
    → WasTableIf table form time None day.text day.taken.ahead day.in_force.ahead day.end → IsByClock table form time day.text day.end
own_clock day table form time same h =
    OnOwnClock day.taken.ahead (subst (λ (x : ℤ). WasTableIf table form time None day.text day.taken.ahead x day.end) same h)

pub other_clock : (result : Result DayAt Exit) (first : DayAt) (clock : ℤ) (table : DayTable) (form : Option Notation) (time : Option ℕ)
    → clock ≡ first.in_force.ahead → WasTableIf table form time None first.text first.taken.ahead first.in_force.ahead first.end
    → IfOk result (λ (day : DayAt). WasTableIf table form time (Some clock) day.text day.taken.ahead day.in_force.ahead day.end)
    → IfOk result (λ (day : DayAt). IsByClock table form time day.text day.end)
other_clock (Ok day) first clock table form time same was h =
    OnOtherClock first.taken.ahead clock day.taken.ahead day.in_force.ahead first.text first.end
    (subst (λ (x : ℤ). WasTableIf table form time None first.text first.taken.ahead x first.end) (sym same) was) h
other_clock (Err e) first clock table form time same was h = tt
