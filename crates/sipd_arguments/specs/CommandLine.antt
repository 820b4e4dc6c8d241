-- The command line: the commands that the program knows, with their options, and what each asks for (this project's profile).
use Rattle.std.specs.Prelude.{◌≡◌, ◌⊎◌, ⊤, ℕ, pos, ◌^◌, Bool, true, false, ◌&&◌, ◌||◌, not, nat_lt, if◌then◌else◌, List, [], ◌∷◌, ◌++◌, codes, Option, Some, None, find}
use Rattle.std.specs.Prelude.{unwrap_or, option_map, option_and_then, is_some, map, string_bytes, Result, Ok, Err}
use Rattle.std.specs.List.{list_any}
use Rattle.std.specs.Str.{bytes_eq}
use Rattle.std.specs.Str.Parse.{digits_value, without_leading_plus}
use Rattle.std.specs.Option.{option_map_or}
use Rattle.clap.specs.Words.{App, Row, Rule, Shape, Text, all_of, new_app, new_rule, first_of, one_of, subcommand_of}
use Rattle.clap.specs.Lexer.{usize_max}
use Rattle.clap.specs.Faults.{fault_of}
use Rattle.clap.specs.Kinds.{IsAmong, Kinds}
use Rattle.clap.specs.ValueTests.{is_numeral}
use Rattle.clap.specs.declared.builder.action.ArgAction.TheVariants.{Append, Set, SetTrue}
use Rattle.clap.specs.declared.builder.value_parser.ValueParser.TheVariants as parsers
use Rattle.clap.specs.declared.error.kind.ErrorKind.{ErrorKind}
use Rattle.clap.specs.declared.error.kind.ErrorKind.TheVariants.{DisplayHelp, DisplayVersion}
use Rattle.sipd_arguments.specs.declared.call.ProgramCall.{ProgramCall}
use Rattle.sipd_arguments.specs.declared.call.ProgramCall.TheVariants as calls
use Rattle.sipd_arguments.specs.declared.call.CheckCall.{CheckCall}
use Rattle.sipd_arguments.specs.declared.call.ReplayCall.{ReplayCall}
use Rattle.sipd_arguments.specs.declared.call.ReplayCall.TheVariants.{Script, Record}
use Rattle.sipd_arguments.specs.declared.call.CompactCall.{CompactCall}
use Rattle.sipd_arguments.specs.declared.call.ServeCall.{ServeCall}
use Rattle.sipd_arguments.specs.declared.call.DecideCall.{DecideCall}
use Rattle.sipd_arguments.specs.declared.call.DecideCall.TheVariants.{Question, Log}
use Rattle.sipd_arguments.specs.declared.call.QuestionCall.{QuestionCall}
use Rattle.sipd_arguments.specs.declared.call.MatrixCall.{MatrixCall}
use Rattle.sipd_arguments.specs.declared.call.ReportCall.{ReportCall}
use Rattle.sipd_arguments.specs.declared.call.ChosenLines.{ChosenLines}
use Rattle.sipd_arguments.specs.declared.call.UserCall.{UserCall}
use Rattle.sipd_arguments.specs.declared.call.CallsCall.{CallsCall}
use Rattle.sipd_arguments.specs.declared.call.ChosenCalls.{ChosenCalls}
use Rattle.sipd_arguments.specs.declared.call.TimeCall.{TimeCall}
use Rattle.sipd_arguments.specs.declared.call.TraceCall.{TraceCall}
use Rattle.sipd_arguments.specs.declared.call.LadderCall.{LadderCall}
use Rattle.sipd_arguments.specs.declared.call.SourcesCall.{SourcesCall}
use Rattle.sipd_arguments.specs.declared.call.ChosenSources.{ChosenSources}
use Rattle.sipd_arguments.specs.declared.call.PageCall.{PageCall}
use Rattle.sipd_arguments.specs.declared.call.ExpectedDecision.{ExpectedDecision}
use Rattle.sipd_arguments.specs.declared.call.ExpectedDecision.TheVariants.{Allow, Deny, Challenge}
use Rattle.sipd_exit.specs.declared.record_place.RecordFault.{RecordFault}
use Rattle.sipd_exit.specs.declared.record_place.RecordFault.TheVariants.{GoOn, End}
use Rattle.sipd_exit.specs.declared.record_place.RecordSync.{RecordSync}
use Rattle.sipd_exit.specs.declared.record_place.RecordSync.TheVariants.{Never, Second, Each}
use Rattle.sipd_exit.specs.declared.record_place.RecordPlace.{RecordPlace}
use Rattle.sipd_exit.specs.declared.record_place.RecordPlace.TheVariants.{File, Folder}
use Rattle.sipd_arguments.specs.declared.commands.Parsed.{Parsed}
use Rattle.sipd_arguments.specs.declared.commands.Parsed.TheVariants as parsed
use Rattle.sipd_exit.specs.declared.exit.Exit.{Exit}
use Rattle.sipd_exit.specs.declared.exit.Exit.TheVariants.{Usage, Memory}
use Rattle.sipd_arguments.specs.declared.misuse.Misuse.{Misuse}
use Rattle.sipd_arguments.specs.declared.misuse.Misuse.TheVariants.{NoCommand, TwoRecords, NoNewRecord, NoRecord, NoSuchWord, NoRealm, Sha256Said, NoSuchVerdict}
use Rattle.sipd_arguments.specs.declared.misuse.Misuse.TheVariants.{NoQuestion, LogAlone, TwoForms, NoFolder, NothingSynced, NoSuchSync, CsvAndJson}

-- ---- the options of each command

-- `--NAME VALUE`
abbrev pub option : Text → Rule
option name = record (new_rule name) { long = Some name; value_names = 1; action = Some Set }

-- `--NAME`
abbrev pub flag : Text → Rule
flag name = record (new_rule name) { long = Some name; action = Some SetTrue }

-- a word at its place
abbrev pub word : Text → ℕ → Rule
word name place = record (new_rule name) { index = Some place; value_names = 1; required = true; action = Some Set }

-- the same, if one is said
abbrev pub spare_word : Text → ℕ → Rule
spare_word name place = record (new_rule name) { index = Some place; value_names = 1; action = Some Set }

-- it has to be there
abbrev pub needed : Rule → Rule
needed r = record r { required = true }

-- its value is a number, from one to another
abbrev pub number_from : ℕ → ℕ → Rule → Rule
number_from low high r = record r { parser = Some (parsers.Signed (pos low) (pos high)) }

-- it may have several values, and stand several times
abbrev pub several : Rule → Rule
several r = record r { range = Some (record { start_inclusive = 1; end_inclusive = usize_max }); action = Some Append }

abbrev pub command : Text → List Rule → Shape
command name rules = record (new_app name).top { rules = rules }

abbrev pub check_command : Shape
check_command = command (codes "check") (needed (option (codes "config")) ∷ flag (codes "show") ∷ option (codes "against") ∷ option (codes "expect") ∷ [])

abbrev pub replay_command : Shape
replay_command = command (codes "replay") (option (codes "config") ∷ option (codes "record") ∷ [])

abbrev pub compact_command : Shape
compact_command = command (codes "compact") (needed (option (codes "config")) ∷ word (codes "OLD") 1 ∷ word (codes "NEW") 2 ∷ [])

abbrev pub serve_command : Shape
serve_command = command (codes "serve")
    (needed (option (codes "config"))
    ∷ number_from 0 4294967295 (option (codes "turns"))
    ∷ option (codes "record")
    ∷ option (codes "records")
    ∷ option (codes "record-fault")
    ∷ option (codes "resume")
    ∷ number_from 0 36500 (option (codes "keep"))
    ∷ option (codes "sync")
    ∷ number_from 1 1000000 (option (codes "per-source"))
    ∷ option (codes "status")
    ∷ flag (codes "reload")
    ∷ [])

abbrev pub decide_command : Shape
decide_command = command (codes "decide")
    (needed (option (codes "config"))
    ∷ option (codes "user")
    ∷ number_from 0 1439 (option (codes "minute"))
    ∷ option (codes "expect")
    ∷ flag (codes "log")
    ∷ spare_word (codes "METHOD") 1
    ∷ spare_word (codes "TARGET") 2
    ∷ [])

abbrev pub matrix_command : Shape
matrix_command = command (codes "matrix")
    (needed (option (codes "config"))
    ∷ option (codes "method")
    ∷ option (codes "against")
    ∷ flag (codes "csv")
    ∷ flag (codes "html")
    ∷ [])

-- a command with the options that say which lines of a log are shown
abbrev pub sifting : Shape → Shape
sifting s = record s {
  rules =
      s.rules ++ (option (codes "since") ∷ []) ++ (option (codes "until") ∷ []) ++ (option (codes "user") ∷ []) ++ (option (codes "target") ∷ [])
      ++ (number_from 0 4294967295 (option (codes "rule")) ∷ []) ++ (flag (codes "denied") ∷ []) ++ (option (codes "outcome") ∷ []);
}

abbrev pub report_command : Shape
report_command = command (codes "report")
    (option (codes "config")
    ∷ several (option (codes "record"))
    ∷ option (codes "since")
    ∷ option (codes "until")
    ∷ option (codes "user")
    ∷ option (codes "target")
    ∷ number_from 0 4294967295 (option (codes "rule"))
    ∷ flag (codes "denied")
    ∷ option (codes "outcome")
    ∷ flag (codes "csv")
    ∷ [])

abbrev pub user_command : Shape
user_command = command (codes "user")
    (word (codes "NAME") 1
    ∷ option (codes "config")
    ∷ option (codes "realm")
    ∷ flag (codes "sha256")
    ∷ [])

-- a command with the options that say which calls are shown
abbrev pub choosing : Shape → Shape
choosing s = record s {
  rules =
      s.rules ++ (option (codes "since") ∷ []) ++ (option (codes "until") ∷ []) ++ (option (codes "user") ∷ []) ++ (option (codes "target") ∷ [])
      ++ (option (codes "from") ∷ []);
}

-- a command with the options that say for which programs something is written
abbrev pub with_forms : Shape → Shape
with_forms s = record s { rules = s.rules ++ (flag (codes "csv") ∷ []) ++ (flag (codes "json") ∷ []) }

-- a command that tells the calls of recorded days, without them
abbrev pub day_command : Shape
day_command = command (codes "calls") (needed (several (option (codes "record"))) ∷ option (codes "config") ∷ [])

abbrev pub calls_command : Shape
calls_command = command (codes "calls")
    (needed (several (option (codes "record")))
    ∷ option (codes "config")
    ∷ option (codes "since")
    ∷ option (codes "until")
    ∷ option (codes "user")
    ∷ option (codes "target")
    ∷ option (codes "from")
    ∷ flag (codes "challenged")
    ∷ flag (codes "csv")
    ∷ flag (codes "json")
    ∷ [])

-- a command with the options that say which day at which time
abbrev pub at_a_time : Shape → Shape
at_a_time s = record s {
  rules = s.rules ++ (needed (option (codes "record")) ∷ []) ++ (option (codes "config") ∷ []) ++ (option (codes "at") ∷ []);
}

abbrev pub phones_command : Shape
phones_command = command (codes "phones")
    (needed (option (codes "record")) ∷ option (codes "config") ∷ option (codes "at") ∷ flag (codes "csv") ∷ flag (codes "json") ∷ [])

abbrev pub now_command : Shape
now_command = command (codes "now")
    (needed (option (codes "record")) ∷ option (codes "config") ∷ option (codes "at") ∷ flag (codes "csv") ∷ flag (codes "json") ∷ [])

-- a command with the options that name recorded days
abbrev pub of_days : Shape → Shape
of_days s = record s { rules = s.rules ++ (needed (several (option (codes "record"))) ∷ []) ++ (option (codes "config") ∷ []) }

abbrev pub trace_command : Shape
trace_command = command (codes "trace")
    (needed (several (option (codes "record")))
    ∷ option (codes "config")
    ∷ needed (option (codes "pcap"))
    ∷ flag (codes "hide")
    ∷ spare_word (codes "CALL") 1
    ∷ [])

abbrev pub ladder_command : Shape
ladder_command = command (codes "ladder")
    (needed (several (option (codes "record")))
    ∷ option (codes "config")
    ∷ flag (codes "svg")
    ∷ word (codes "CALL") 1
    ∷ [])

-- a command with the options that say which datagrams are counted
abbrev pub counting : Shape → Shape
counting s = record s { rules = s.rules ++ (option (codes "since") ∷ []) ++ (option (codes "until") ∷ []) ++ (option (codes "from") ∷ []) }

abbrev pub sources_command : Shape
sources_command = command (codes "sources")
    (needed (several (option (codes "record")))
    ∷ option (codes "config")
    ∷ option (codes "since")
    ∷ option (codes "until")
    ∷ option (codes "from")
    ∷ flag (codes "csv")
    ∷ flag (codes "json")
    ∷ [])

abbrev pub page_command : Shape
page_command = command (codes "page") (needed (several (option (codes "record"))) ∷ option (codes "config") ∷ option (codes "log") ∷ [])

-- the program without its commands: one has to be there
abbrev pub no_commands : App
no_commands = record (new_app (codes "sipd")) { top = record (new_app (codes "sipd")).top { has_version = true; subcommand_required = true } }

-- the program
abbrev pub program : App
program = record {
  top = record no_commands.top { is_leaf = false };
  subs = check_command ∷ replay_command ∷ compact_command ∷ serve_command ∷ decide_command ∷ matrix_command ∷ report_command ∷ user_command
      ∷ calls_command ∷ phones_command ∷ now_command ∷ trace_command ∷ ladder_command ∷ sources_command
      ∷ page_command ∷ [];
}

-- ---- what is said of an option

-- its text; none where it isn't there
abbrev pub text_at : Text → List Row → Option Text
text_at = first_of

-- the texts of one that may have several
abbrev pub texts_at : Text → List Row → List Text
texts_at name rows = unwrap_or (all_of name rows) []

-- whether it is there, with a text
abbrev pub is_there : Text → List Row → Bool
is_there name rows = is_some (text_at name rows)

-- the text of one that has to be there
abbrev pub needed_text : Text → List Row → Text
needed_text name rows = unwrap_or (first_of name rows) []

-- a text as a number of so many bits
abbrev pub number_in : ℕ → Text → Option ℕ
number_in bits text =
    let digits = without_leading_plus text in
    if is_numeral digits && nat_lt (digits_value 10 digits) (2 ^ bits) then Some (digits_value 10 digits) else None

-- its number; none where it isn't there
abbrev pub number_at : ℕ → Text → List Row → Option ℕ
number_at bits name rows = option_and_then (number_in bits) (one_of name rows)

-- whether it is there, without a text
abbrev pub is_on : Text → List Row → Bool
is_on name rows = option_map_or (λ text. bytes_eq text (codes "true")) (one_of name rows) false

-- ---- what each command asks for

-- `check`
pub record IsCheck (rows : List Row) (call : CheckCall) : Type 0 where
  pub config : string_bytes call.config ≡ needed_text (codes "config") rows
  pub show : call.show ≡ is_on (codes "show") rows
  pub against : option_map string_bytes call.against ≡ text_at (codes "against") rows
  pub expect : option_map string_bytes call.expect ≡ text_at (codes "expect") rows

-- `replay`: a script, or a record
abbrev pub IsReplay : List Row → ReplayCall → Type 0
IsReplay rows (Script config) = (text_at (codes "record") rows ≡ None) × (option_map string_bytes config ≡ text_at (codes "config") rows)
IsReplay rows (Record config path) = (text_at (codes "record") rows ≡ Some (string_bytes path)) × (option_map string_bytes config ≡ text_at (codes "config") rows)

-- `compact`
pub record IsCompact (rows : List Row) (call : CompactCall) : Type 0 where
  pub config : string_bytes call.config ≡ needed_text (codes "config") rows
  pub old : string_bytes call.old ≡ needed_text (codes "OLD") rows
  pub new : string_bytes call.new ≡ needed_text (codes "NEW") rows

-- where a server is to record: in a new file of a folder, or in a file, going on from another one where that is named
abbrev pub IsPlace : Option Text → Option Text → Option Text → Option RecordPlace → Type 0
IsPlace (Some folder) file resume (Some (Folder path)) = string_bytes path ≡ folder
IsPlace (Some folder) file resume place = ⊥
IsPlace None (Some file) resume (Some (File path old)) = (string_bytes path ≡ file) × (option_map string_bytes old ≡ resume)
IsPlace None (Some file) resume place = ⊥
IsPlace None None resume place = place ≡ None

-- what becomes of the server where its record can't be written: it goes on, if nothing is said
abbrev pub fault_named : Text → Option RecordFault
fault_named word = if bytes_eq word (codes "go-on") then Some GoOn else (if bytes_eq word (codes "end") then Some End else None)

abbrev pub fault_said : List Row → Option RecordFault
fault_said rows = option_map_or fault_named (text_at (codes "record-fault") rows) (Some GoOn)

-- when what is recorded is put on the disk: when the system does that, if nothing is said
abbrev pub sync_named : Text → Option RecordSync
sync_named word =
    if bytes_eq word (codes "each") then Some Each else (if bytes_eq word (codes "second") then Some Second
    else (if bytes_eq word (codes "never") then Some Never else None))

abbrev pub sync_said : List Row → Option RecordSync
sync_said rows = option_map_or sync_named (text_at (codes "sync") rows) (Some Never)

-- for how many days records are kept: 0 keeps all
abbrev pub days_said : List Row → ℕ
days_said rows = unwrap_or (number_at 32 (codes "keep") rows) 0

-- `serve`
pub record IsServe (rows : List Row) (call : ServeCall) : Type 0 where
  pub config : string_bytes call.config ≡ needed_text (codes "config") rows
  pub turns : call.turns ≡ number_at 32 (codes "turns") rows
  pub place : IsPlace (text_at (codes "records") rows) (text_at (codes "record") rows) (text_at (codes "resume") rows) call.«record»
  pub fault : fault_said rows ≡ Some call.record_fault
  pub keep : call.keep ≡ days_said rows
  pub sync : sync_said rows ≡ Some call.sync
  pub per_source : call.per_source ≡ number_at 32 (codes "per-source") rows
  pub status : option_map string_bytes call.status ≡ text_at (codes "status") rows
  pub reload : call.reload ≡ is_on (codes "reload") rows

-- what a word expects to be decided
abbrev pub verdict_named : Text → Option ExpectedDecision
verdict_named word =
    if bytes_eq word (codes "allow") then Some Allow else (if bytes_eq word (codes "deny") then Some Deny
    else (if bytes_eq word (codes "challenge") then Some Challenge else None))

-- what is expected: anything, if nothing is said
abbrev pub expected_said : List Row → Option (Option ExpectedDecision)
expected_said rows = option_map_or (λ word. option_map (λ verdict. Some verdict) (verdict_named word)) (text_at (codes "expect") rows) (Some None)

-- a question of `decide`
pub record IsQuestion (rows : List Row) (call : QuestionCall) : Type 0 where
  pub config : string_bytes call.config ≡ needed_text (codes "config") rows
  pub user : option_map string_bytes call.user ≡ text_at (codes "user") rows
  pub minute : call.minute ≡ number_at 16 (codes "minute") rows
  pub expect : expected_said rows ≡ Some call.expect
  pub method : string_bytes call.method ≡ needed_text (codes "METHOD") rows
  pub target : string_bytes call.target ≡ needed_text (codes "TARGET") rows

-- `decide`: a log, or a question
abbrev pub IsDecide : List Row → DecideCall → Type 0
IsDecide rows (Log config) = (is_on (codes "log") rows ≡ true) × (string_bytes config ≡ needed_text (codes "config") rows)
IsDecide rows (Question call) = (is_on (codes "log") rows ≡ false) × IsQuestion rows call

-- `matrix`
pub record IsMatrix (rows : List Row) (call : MatrixCall) : Type 0 where
  pub config : string_bytes call.config ≡ needed_text (codes "config") rows
  pub method : option_map string_bytes call.method ≡ text_at (codes "method") rows
  pub against : option_map string_bytes call.against ≡ text_at (codes "against") rows
  pub csv : call.csv ≡ is_on (codes "csv") rows
  pub html : call.html ≡ is_on (codes "html") rows

-- which lines of `report`
pub record IsChosenIn (rows : List Row) (chosen : ChosenLines) : Type 0 where
  pub since : option_map string_bytes chosen.since ≡ text_at (codes "since") rows
  pub until : option_map string_bytes chosen.until ≡ text_at (codes "until") rows
  pub user : option_map string_bytes chosen.user ≡ text_at (codes "user") rows
  pub target : option_map string_bytes chosen.target ≡ text_at (codes "target") rows
  pub rule : chosen.rule ≡ number_at 32 (codes "rule") rows
  pub denied : chosen.denied ≡ is_on (codes "denied") rows
  pub outcome : option_map string_bytes chosen.outcome ≡ text_at (codes "outcome") rows

-- `report`
pub record IsReport (rows : List Row) (call : ReportCall) : Type 0 where
  pub config : option_map string_bytes call.config ≡ text_at (codes "config") rows
  pub records : map string_bytes call.records.items ≡ texts_at (codes "record") rows
  pub chosen : IsChosenIn rows call.chosen
  pub csv : call.csv ≡ is_on (codes "csv") rows

-- `user`
pub record IsUser (rows : List Row) (call : UserCall) : Type 0 where
  pub name : string_bytes call.name ≡ needed_text (codes "NAME") rows
  pub config : option_map string_bytes call.config ≡ text_at (codes "config") rows
  pub realm : option_map string_bytes call.realm ≡ text_at (codes "realm") rows
  pub sha256 : call.sha256 ≡ is_on (codes "sha256") rows

-- which calls of `calls`
pub record IsChosen (rows : List Row) (chosen : ChosenCalls) : Type 0 where
  pub since : option_map string_bytes chosen.since ≡ text_at (codes "since") rows
  pub until : option_map string_bytes chosen.until ≡ text_at (codes "until") rows
  pub user : option_map string_bytes chosen.user ≡ text_at (codes "user") rows
  pub target : option_map string_bytes chosen.target ≡ text_at (codes "target") rows
  pub from : option_map string_bytes chosen.from ≡ text_at (codes "from") rows
  pub challenged : chosen.challenged ≡ is_on (codes "challenged") rows

-- `calls`
pub record IsCalls (rows : List Row) (call : CallsCall) : Type 0 where
  pub records : map string_bytes call.records.items ≡ texts_at (codes "record") rows
  pub config : option_map string_bytes call.config ≡ text_at (codes "config") rows
  pub chosen : IsChosen rows call.chosen
  pub csv : call.csv ≡ is_on (codes "csv") rows
  pub json : call.json ≡ is_on (codes "json") rows

-- `phones` and `now`
pub record IsTime (rows : List Row) (call : TimeCall) : Type 0 where
  pub file : string_bytes call.file ≡ needed_text (codes "record") rows
  pub config : option_map string_bytes call.config ≡ text_at (codes "config") rows
  pub at : option_map string_bytes call.at ≡ text_at (codes "at") rows
  pub csv : call.csv ≡ is_on (codes "csv") rows
  pub json : call.json ≡ is_on (codes "json") rows

-- `trace`
pub record IsTrace (rows : List Row) (call : TraceCall) : Type 0 where
  pub records : map string_bytes call.records.items ≡ texts_at (codes "record") rows
  pub config : option_map string_bytes call.config ≡ text_at (codes "config") rows
  pub of_call : option_map string_bytes call.call ≡ text_at (codes "CALL") rows
  pub pcap : string_bytes call.pcap ≡ needed_text (codes "pcap") rows
  pub hide : call.hide ≡ is_on (codes "hide") rows

-- `ladder`
pub record IsLadder (rows : List Row) (call : LadderCall) : Type 0 where
  pub records : map string_bytes call.records.items ≡ texts_at (codes "record") rows
  pub config : option_map string_bytes call.config ≡ text_at (codes "config") rows
  pub of_call : string_bytes call.call ≡ needed_text (codes "CALL") rows
  pub svg : call.svg ≡ is_on (codes "svg") rows

-- which datagrams of `sources`
pub record IsChosenOf (rows : List Row) (chosen : ChosenSources) : Type 0 where
  pub since : option_map string_bytes chosen.since ≡ text_at (codes "since") rows
  pub until : option_map string_bytes chosen.until ≡ text_at (codes "until") rows
  pub from : option_map string_bytes chosen.from ≡ text_at (codes "from") rows

-- `sources`
pub record IsSources (rows : List Row) (call : SourcesCall) : Type 0 where
  pub records : map string_bytes call.records.items ≡ texts_at (codes "record") rows
  pub config : option_map string_bytes call.config ≡ text_at (codes "config") rows
  pub chosen : IsChosenOf rows call.chosen
  pub csv : call.csv ≡ is_on (codes "csv") rows
  pub json : call.json ≡ is_on (codes "json") rows

-- `page`
pub record IsPage (rows : List Row) (call : PageCall) : Type 0 where
  pub records : map string_bytes call.records.items ≡ texts_at (codes "record") rows
  pub config : option_map string_bytes call.config ≡ text_at (codes "config") rows
  pub log : option_map string_bytes call.log ≡ text_at (codes "log") rows

-- what a command with its options asks for
abbrev pub IsCall : Text → List Row → ProgramCall → Type 0
IsCall name rows (calls.Check call) = (name ≡ codes "check") × IsCheck rows call
IsCall name rows (calls.Replay call) = (name ≡ codes "replay") × IsReplay rows call
IsCall name rows (calls.Compact call) = (name ≡ codes "compact") × IsCompact rows call
IsCall name rows (calls.Serve call) = (name ≡ codes "serve") × IsServe rows call
IsCall name rows (calls.Decide call) = (name ≡ codes "decide") × IsDecide rows call
IsCall name rows (calls.Matrix call) = (name ≡ codes "matrix") × IsMatrix rows call
IsCall name rows (calls.Report call) = (name ≡ codes "report") × IsReport rows call
IsCall name rows (calls.User call) = (name ≡ codes "user") × IsUser rows call
IsCall name rows (calls.Calls call) = (name ≡ codes "calls") × IsCalls rows call
IsCall name rows (calls.Phones call) = (name ≡ codes "phones") × IsTime rows call
IsCall name rows (calls.Now call) = (name ≡ codes "now") × IsTime rows call
IsCall name rows (calls.Trace call) = (name ≡ codes "trace") × IsTrace rows call
IsCall name rows (calls.Ladder call) = (name ≡ codes "ladder") × IsLadder rows call
IsCall name rows (calls.Sources call) = (name ≡ codes "sources") × IsSources rows call
IsCall name rows (calls.Page call) = (name ≡ codes "page") × IsPage rows call

-- the same of the command that a command line names, if it names one
abbrev pub IsCallOf : Option (Text × List Row) → ProgramCall → Type 0
IsCallOf None call = ⊥
IsCallOf (Some named) call = IsCall named.0 named.1 call

-- ---- what doesn't stand together

-- the first of some cases that holds
abbrev pub first_case : List (Bool × Misuse) → Option Misuse
first_case cases = option_map (λ c. c.1) (find (λ c. c.0) cases)

-- the first of two reasons
abbrev pub first_why : Option Misuse → Option Misuse → Option Misuse
first_why (Some why) other = Some why
first_why None other = other

-- of where it is recorded
abbrev pub place_misuse : List Row → Option Misuse
place_misuse rows =
    let file = is_there (codes "record") rows in
    let folder = is_there (codes "records") rows in
    first_case
    ((file && folder, TwoRecords)
    ∷ (is_there (codes "resume") rows && not file, NoNewRecord)
    ∷ (is_there (codes "record-fault") rows && not (file || folder), NoRecord)
    ∷ [])

-- of how that is kept
abbrev pub keeping_misuse : List Row → Option Misuse
keeping_misuse rows =
    let folder = is_there (codes "records") rows in
    first_case
    ((is_there (codes "keep") rows && not folder, NoFolder)
    ∷ (is_there (codes "sync") rows && not (is_there (codes "record") rows || folder), NothingSynced)
    ∷ [])

-- of words
abbrev pub word_misuse : List Row → Option Misuse
word_misuse rows =
    first_case
    ((not (is_some (fault_said rows)), NoSuchWord)
    ∷ (not (is_some (sync_said rows)), NoSuchSync)
    ∷ [])

abbrev pub serve_misuse : List Row → Option Misuse
serve_misuse rows = first_why (place_misuse rows) (first_why (keeping_misuse rows) (word_misuse rows))

abbrev pub user_misuse : List Row → Option Misuse
user_misuse rows =
    let config = is_there (codes "config") rows in
    first_case
    ((not (config || is_there (codes "realm") rows), NoRealm)
    ∷ (config && is_on (codes "sha256") rows, Sha256Said)
    ∷ [])

-- what is written has one form
abbrev pub forms_misuse : List Row → Option Misuse
forms_misuse rows = first_case ((is_on (codes "csv") rows && is_on (codes "json") rows, CsvAndJson) ∷ [])

-- whether something of a question of `decide` is said, and whether a whole one is
abbrev pub is_asking : List Row → Bool
is_asking rows = is_there (codes "METHOD") rows || (is_there (codes "user") rows || (is_there (codes "minute") rows || is_there (codes "expect") rows))

abbrev pub is_question : List Row → Bool
is_question rows = is_there (codes "METHOD") rows && is_there (codes "TARGET") rows

abbrev pub decide_misuse : List Row → Option Misuse
decide_misuse rows =
    let log = is_on (codes "log") rows in
    first_case
    ((log && is_asking rows, LogAlone)
    ∷ (not log && not (is_question rows), NoQuestion)
    ∷ (not (is_some (expected_said rows)), NoSuchVerdict)
    ∷ [])

-- what is told has one form
abbrev pub matrix_misuse : List Row → Option Misuse
matrix_misuse rows =
    let against = is_there (codes "against") rows in
    let csv = is_on (codes "csv") rows in
    let html = is_on (codes "html") rows in
    first_case
    ((against && csv, TwoForms)
    ∷ (against && html, TwoForms)
    ∷ (csv && html, TwoForms)
    ∷ [])

-- the commands about recorded days
abbrev pub is_of_days : Text → Bool
is_of_days name = list_any (bytes_eq name) (codes "calls" ∷ codes "phones" ∷ codes "now" ∷ codes "sources" ∷ [])

-- the commands whose options all stand together
abbrev pub is_free : Text → Bool
is_free name = list_any (bytes_eq name) (codes "check" ∷ codes "replay" ∷ codes "compact" ∷ codes "report" ∷ codes "trace" ∷ codes "ladder"
    ∷ codes "page" ∷ [])

abbrev pub misuse_in : Text → List Row → Option Misuse
misuse_in name rows =
    if bytes_eq name (codes "serve") then serve_misuse rows else (if bytes_eq name (codes "user") then user_misuse rows
    else (if bytes_eq name (codes "decide") then decide_misuse rows else (if bytes_eq name (codes "matrix") then matrix_misuse rows
    else (if is_of_days name then forms_misuse rows else (if is_free name then None else Some NoCommand)))))

-- why the command that a line names is no call with its options
abbrev pub misuse_of : Option (Text × List Row) → Option Misuse
misuse_of None = Some NoCommand
misuse_of (Some named) = misuse_in named.0 named.1

abbrev pub line_of : Misuse → Text
line_of NoCommand = codes "error: no command"
line_of TwoRecords = codes "error: '--record <FILE>' and '--records <FOLDER>' don't stand together"
line_of NoNewRecord = codes "error: '--resume <OLD>' is for a new record: '--record <FILE>'"
line_of NoRecord = codes "error: '--record-fault <WORD>' is for a record: '--record <FILE>' or '--records <FOLDER>'"
line_of NoSuchWord = codes "error: '--record-fault <WORD>' is 'go-on' or 'end'"
line_of NoFolder = codes "error: '--keep <DAYS>' is for a folder of records: '--records <FOLDER>'"
line_of NothingSynced = codes "error: '--sync <WORD>' is for a record: '--record <FILE>' or '--records <FOLDER>'"
line_of NoSuchSync = codes "error: '--sync <WORD>' is 'each', 'second' or 'never'"
line_of NoRealm = codes "error: no realm: '--realm <R>', or '--config <FILE>' that states it"
line_of TwoForms = codes "error: '--against <OLD>', '--csv' and '--html' don't stand together"
line_of Sha256Said = codes "error: '--sha256' isn't for '--config <FILE>', whose users say whether"
line_of CsvAndJson = codes "error: '--csv' and '--json' don't stand together"
line_of NoSuchVerdict = codes "error: '--expect <WORD>' is 'allow', 'deny' or 'challenge'"
line_of NoQuestion = codes "error: no question: METHOD and TARGET, or '--log'"
line_of LogAlone = codes "error: '--log' asks what each line says: '--config <FILE>' alone stands beside it"

-- what is complained about
abbrev pub complaint_of : Misuse → Text
complaint_of why = line_of why ++ codes "\n\nFor more information, try '--help'.\n"

-- ---- how a command line ends

-- whether a kind of error is an answer to who asks for help or the version
abbrev pub asks_text : ErrorKind → Bool
asks_text DisplayHelp = true
asks_text DisplayVersion = true
asks_text kind = false

-- among the first faults of a line is one that asks for a text, or is complained about
pub record HasFault (asks : Bool) (kinds : Kinds) : Type 0 where
  pub kind : ErrorKind
  pub among : IsAmong kind kinds
  pub is_so : asks_text kind ≡ asks

-- How a line ends that has these first faults, and names this command. Without a fault it is the call that the command and its options ask
-- for, or it is complained about what doesn't stand together. Where help or the version is asked for it is a text, and any other fault is
-- complained about. Memory may run out.
abbrev pub EndsBy : Kinds → Option (Text × List Row) → Result Parsed Exit → Type 0
EndsBy kinds named (Ok (parsed.Call call)) = (kinds ≡ []) × (misuse_of named ≡ None) × IsCallOf named call
EndsBy kinds named (Ok (parsed.Text text)) = HasFault true kinds
EndsBy kinds named (Err (Usage text)) = HasFault false kinds ⊎ ((kinds ≡ []) × (option_map complaint_of (misuse_of named) ≡ Some (string_bytes text)))
EndsBy kinds named (Err Memory) = ⊤
EndsBy kinds named (Err exit) = ⊥

-- each line ends by the faults that clap's table finds in it, and by the command with its options that it names (`fault_of`, `subcommand_of` of clap)
abbrev pub EndsExactly : List Text → Result Parsed Exit → Type 0
EndsExactly words = EndsBy (fault_of program words) (subcommand_of program words)
