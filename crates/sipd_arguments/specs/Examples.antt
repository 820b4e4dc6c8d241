-- Lines, the first faults of them, and what doesn't stand together.
use Rattle.std.specs.Prelude.{◌≡◌, true, false, List, [], ◌∷◌, ◌++◌, codes, Option, Some, None, option_map}
use Rattle.clap.specs.Faults.{fault_of}
use Rattle.clap.specs.Kinds.{Kinds}
use Rattle.clap.specs.Words.{Row, Text, subcommand_of}
use Rattle.clap.specs.declared.error.kind.ErrorKind.TheVariants as kinds
use Rattle.sipd_arguments.specs.CommandLine.{days_said, expected_said, fault_said, is_on, misuse_of, number_at, program, sync_said, text_at, texts_at}
use Rattle.sipd_exit.specs.declared.record_place.RecordFault.TheVariants.{GoOn, End}
use Rattle.sipd_exit.specs.declared.record_place.RecordSync.TheVariants.{Never, Second}
use Rattle.sipd_arguments.specs.declared.call.ExpectedDecision.TheVariants.{Deny}
use Rattle.sipd_arguments.specs.declared.misuse.Misuse.{Misuse}
use Rattle.sipd_arguments.specs.declared.misuse.Misuse.TheVariants.{TwoRecords, NoNewRecord, NoRecord, NoSuchWord, NoRealm, Sha256Said, NoSuchVerdict, NoQuestion}
use Rattle.sipd_arguments.specs.declared.misuse.Misuse.TheVariants.{LogAlone, TwoForms, NoFolder, NothingSynced, NoSuchSync, CsvAndJson}

-- words behind the program's own name
abbrev pub line : List Text → List Text
line words = codes "sipd" ∷ words

abbrev pub serving : List Text → List Text
serving words = line (codes "serve" ∷ codes "--config" ∷ codes "a.toml" ∷ words)

abbrev pub calling : List Text → List Text
calling words = line (codes "calls" ∷ codes "--record" ∷ codes "a" ∷ codes "b" ∷ words)

abbrev pub deciding : Text → List Text
deciding minute = line (codes "decide" ∷ codes "--config" ∷ codes "a.toml" ∷ codes "--minute" ∷ minute ∷ codes "INVITE" ∷ codes "a@b" ∷ [])

-- a question, with options in front of it
abbrev pub asking : List Text → List Text
asking words = line (codes "decide" ∷ codes "--config" ∷ codes "a.toml" ∷ (words ++ codes "INVITE" ∷ codes "a@b" ∷ []))

abbrev pub faults_in : List Text → Kinds
faults_in = fault_of program

abbrev pub misuse_in_line : List Text → Option Misuse
misuse_in_line words = misuse_of (subcommand_of program words)

-- what is taken, and what isn't
pub record AreLines : Type 0 where
  pub check : faults_in (line (codes "check" ∷ codes "--config" ∷ codes "a.toml" ∷ codes "--show" ∷ [])) ≡ []
  pub expect : faults_in (line (codes "check" ∷ codes "--config" ∷ codes "a.toml" ∷ codes "--expect" ∷ codes "b" ∷ [])) ≡ []
  pub joined : faults_in (line (codes "replay" ∷ codes "--config=a.toml" ∷ [])) ≡ []
  pub compact : faults_in (line (codes "compact" ∷ codes "a" ∷ codes "--config" ∷ codes "a.toml" ∷ codes "b" ∷ [])) ≡ []
  pub serve : faults_in (serving (codes "--turns" ∷ codes "3" ∷ codes "--record" ∷ codes "day" ∷ [])) ≡ []
  pub decide : faults_in (line (codes "decide" ∷ codes "INVITE" ∷ codes "--config" ∷ codes "a.toml" ∷ codes "a@b" ∷ [])) ≡ []
  pub expected : faults_in (asking (codes "--expect" ∷ codes "deny" ∷ [])) ≡ []
  pub log : faults_in (line (codes "decide" ∷ codes "--log" ∷ codes "--config" ∷ codes "a.toml" ∷ [])) ≡ []
  pub matrix : faults_in (line (codes "matrix" ∷ codes "--config" ∷ codes "a.toml" ∷ codes "--method" ∷ codes "list" ∷ [])) ≡ []
  pub changes : faults_in (line (codes "matrix" ∷ codes "--config" ∷ codes "a.toml" ∷ codes "--against" ∷ codes "b" ∷ [])) ≡ []
  pub values : faults_in (line (codes "matrix" ∷ codes "--config" ∷ codes "a.toml" ∷ codes "--csv" ∷ [])) ≡ []
  pub no_option : faults_in (line (codes "report" ∷ [])) ≡ []
  pub user : faults_in (line (codes "user" ∷ codes "carol" ∷ codes "--realm" ∷ codes "office" ∷ codes "--sha256" ∷ [])) ≡ []
  pub calls : faults_in (calling (codes "--since" ∷ codes "2026-10-14" ∷ codes "--json" ∷ [])) ≡ []
  pub phones : faults_in (line (codes "phones" ∷ codes "--record" ∷ codes "a" ∷ codes "--at" ∷ codes "2026-10-14" ∷ [])) ≡ []
  pub now : faults_in (line (codes "now" ∷ codes "--record" ∷ codes "a" ∷ codes "b" ∷ [])) ≡ kinds.UnknownArgument ∷ []
  pub trace : faults_in (line (codes "trace" ∷ codes "7" ∷ codes "--record" ∷ codes "a" ∷ codes "b" ∷ codes "--pcap" ∷ codes "c" ∷ codes "--hide" ∷ [])) ≡ []
  pub no_capture : faults_in (line (codes "trace" ∷ codes "--record" ∷ codes "a" ∷ [])) ≡ kinds.MissingRequiredArgument ∷ []
  pub drawn : faults_in (line (codes "ladder" ∷ codes "7" ∷ codes "--record" ∷ codes "a" ∷ codes "--svg" ∷ [])) ≡ []
  pub ladder : faults_in (line (codes "ladder" ∷ codes "7" ∷ codes "--record" ∷ codes "a" ∷ [])) ≡ []
  pub counted : faults_in (line (codes "sources" ∷ codes "--record" ∷ codes "a" ∷ codes "b" ∷ codes "--from" ∷ codes "192.0.2.7" ∷ [])) ≡ []
  pub unproven : faults_in (line (codes "sources" ∷ codes "--record" ∷ codes "a" ∷ codes "--user" ∷ codes "carol" ∷ [])) ≡ kinds.UnknownArgument ∷ []
  pub paged : faults_in (line (codes "page" ∷ codes "--record" ∷ codes "a" ∷ codes "b" ∷ codes "--log" ∷ codes "c" ∷ [])) ≡ []
  pub no_call : faults_in (line (codes "ladder" ∷ codes "--record" ∷ codes "a" ∷ [])) ≡ kinds.MissingRequiredArgument ∷ []
  pub no_records : faults_in (line (codes "calls" ∷ [])) ≡ kinds.MissingRequiredArgument ∷ []
  pub empty_records : faults_in (line (codes "calls" ∷ codes "--record" ∷ codes "--csv" ∷ [])) ≡ kinds.InvalidValue ∷ []
  pub no_command : faults_in (line []) ≡ kinds.MissingSubcommand ∷ []
  pub other_command : faults_in (line (codes "serv" ∷ [])) ≡ kinds.UnknownArgument ∷ kinds.InvalidSubcommand ∷ []
  pub nothing_named : faults_in (line (codes "serve" ∷ [])) ≡ kinds.MissingRequiredArgument ∷ []
  pub no_new : faults_in (line (codes "compact" ∷ codes "--config" ∷ codes "a.toml" ∷ codes "a" ∷ [])) ≡ kinds.MissingRequiredArgument ∷ []
  pub nobody : faults_in (line (codes "user" ∷ codes "--realm" ∷ codes "office" ∷ [])) ≡ kinds.MissingRequiredArgument ∷ []
  pub no_value : faults_in (line (codes "check" ∷ codes "--config" ∷ [])) ≡ kinds.InvalidValue ∷ []
  pub twice : faults_in (line (codes "report" ∷ codes "--csv" ∷ codes "--csv" ∷ [])) ≡ kinds.ArgumentConflict ∷ []
  pub unknown : faults_in (line (codes "report" ∷ codes "--rules" ∷ codes "7" ∷ [])) ≡ kinds.UnknownArgument ∷ []
  pub no_number : faults_in (serving (codes "--turns" ∷ codes "x" ∷ [])) ≡ kinds.ValueValidation ∷ []
  pub too_few : faults_in (serving (codes "--per-source" ∷ codes "0" ∷ [])) ≡ kinds.ValueValidation ∷ []
  pub most : faults_in (serving (codes "--per-source" ∷ codes "1000000" ∷ [])) ≡ []
  pub too_many : faults_in (serving (codes "--per-source" ∷ codes "1000001" ∷ [])) ≡ kinds.ValueValidation ∷ []
  pub too_long : faults_in (serving (codes "--records" ∷ codes "days" ∷ codes "--keep" ∷ codes "36501" ∷ [])) ≡ kinds.ValueValidation ∷ []
  pub last_minute : faults_in (deciding (codes "1439")) ≡ []
  pub no_minute : faults_in (deciding (codes "1440")) ≡ kinds.ValueValidation ∷ []
  pub one_word_more : faults_in (line (codes "replay" ∷ codes "x" ∷ [])) ≡ kinds.UnknownArgument ∷ []
  pub help : faults_in (line (codes "check" ∷ codes "--help" ∷ [])) ≡ kinds.DisplayHelp ∷ []
  pub version : faults_in (line (codes "--version" ∷ [])) ≡ kinds.DisplayVersion ∷ []

-- what stands together, and what doesn't
pub record AreMisuses : Type 0 where
  pub plain : misuse_in_line (serving []) ≡ None
  pub resumed : misuse_in_line (serving (codes "--record" ∷ codes "b" ∷ codes "--resume" ∷ codes "a" ∷ [])) ≡ None
  pub in_folder : misuse_in_line (serving (codes "--records" ∷ codes "days" ∷ codes "--record-fault" ∷ codes "go-on" ∷ [])) ≡ None
  pub two : misuse_in_line (serving (codes "--record" ∷ codes "b" ∷ codes "--records" ∷ codes "days" ∷ [])) ≡ Some TwoRecords
  pub not_new : misuse_in_line (serving (codes "--records" ∷ codes "days" ∷ codes "--resume" ∷ codes "a" ∷ [])) ≡ Some NoNewRecord
  pub no_record : misuse_in_line (serving (codes "--record-fault" ∷ codes "end" ∷ [])) ≡ Some NoRecord
  pub no_such_word : misuse_in_line (serving (codes "--record" ∷ codes "b" ∷ codes "--record-fault" ∷ codes "stop" ∷ [])) ≡ Some NoSuchWord
  pub kept : misuse_in_line (serving (codes "--records" ∷ codes "days" ∷ codes "--keep" ∷ codes "30" ∷ codes "--sync" ∷ codes "each" ∷ [])) ≡ None
  pub no_folder : misuse_in_line (serving (codes "--record" ∷ codes "b" ∷ codes "--keep" ∷ codes "30" ∷ [])) ≡ Some NoFolder
  pub nothing_synced : misuse_in_line (serving (codes "--sync" ∷ codes "each" ∷ [])) ≡ Some NothingSynced
  pub no_such_sync : misuse_in_line (serving (codes "--record" ∷ codes "b" ∷ codes "--sync" ∷ codes "minute" ∷ [])) ≡ Some NoSuchSync
  pub one_form : misuse_in_line (line (codes "matrix" ∷ codes "--config" ∷ codes "a.toml" ∷ codes "--csv" ∷ [])) ≡ None
  pub page : misuse_in_line (line (codes "matrix" ∷ codes "--config" ∷ codes "a.toml" ∷ codes "--html" ∷ [])) ≡ None
  pub two_forms : misuse_in_line (line (codes "matrix" ∷ codes "--config" ∷ codes "a.toml" ∷ codes "--csv" ∷ codes "--against" ∷ codes "b" ∷ [])) ≡ Some TwoForms
  pub page_of_values : misuse_in_line (line (codes "matrix" ∷ codes "--config" ∷ codes "a.toml" ∷ codes "--csv" ∷ codes "--html" ∷ [])) ≡ Some TwoForms
  pub with_file : misuse_in_line (line (codes "user" ∷ codes "carol" ∷ codes "--config" ∷ codes "a.toml" ∷ [])) ≡ None
  pub no_realm : misuse_in_line (line (codes "user" ∷ codes "carol" ∷ [])) ≡ Some NoRealm
  pub csv_alone : misuse_in_line (calling (codes "--csv" ∷ [])) ≡ None
  pub csv_and_json : misuse_in_line (calling (codes "--csv" ∷ codes "--json" ∷ [])) ≡ Some CsvAndJson
  pub phones_twice : misuse_in_line (line (codes "phones" ∷ codes "--record" ∷ codes "a" ∷ codes "--csv" ∷ codes "--json" ∷ [])) ≡ Some CsvAndJson
  pub said : misuse_in_line (line (codes "user" ∷ codes "carol" ∷ codes "--config" ∷ codes "a.toml" ∷ codes "--sha256" ∷ [])) ≡ Some Sha256Said
  pub verdict : misuse_in_line (asking (codes "--expect" ∷ codes "challenge" ∷ [])) ≡ None
  pub no_verdict : misuse_in_line (asking (codes "--expect" ∷ codes "denied" ∷ [])) ≡ Some NoSuchVerdict
  pub log : misuse_in_line (line (codes "decide" ∷ codes "--log" ∷ codes "--config" ∷ codes "a.toml" ∷ [])) ≡ None
  pub log_asked : misuse_in_line (asking (codes "--log" ∷ [])) ≡ Some LogAlone
  pub no_question : misuse_in_line (line (codes "decide" ∷ codes "--config" ∷ codes "a.toml" ∷ [])) ≡ Some NoQuestion
  pub half_question : misuse_in_line (line (codes "decide" ∷ codes "--config" ∷ codes "a.toml" ∷ codes "INVITE" ∷ [])) ≡ Some NoQuestion

-- what is said of an option of the command that a line names
abbrev pub of_line : {X : Type 0} → (List Row → X) → List Text → Option X
of_line of words = option_map (λ named. of named.1) (subcommand_of program words)

-- what is said where an option is there, and where it isn't
pub record AreSaid : Type 0 where
  pub turns : of_line (number_at 32 (codes "turns")) (serving (codes "--turns" ∷ codes "3" ∷ [])) ≡ Some (Some 3)
  pub no_turns : of_line (number_at 32 (codes "turns")) (serving []) ≡ Some None
  pub file : of_line (text_at (codes "config")) (serving []) ≡ Some (Some (codes "a.toml"))
  pub reload : of_line (is_on (codes "reload")) (serving (codes "--reload" ∷ [])) ≡ Some true
  pub no_reload : of_line (is_on (codes "reload")) (serving []) ≡ Some false
  pub status : of_line (text_at (codes "status")) (serving (codes "--status" ∷ codes "sipd.prom" ∷ [])) ≡ Some (Some (codes "sipd.prom"))
  pub ends : of_line fault_said (serving (codes "--record-fault" ∷ codes "end" ∷ [])) ≡ Some (Some End)
  pub goes_on : of_line fault_said (serving []) ≡ Some (Some GoOn)
  pub days : of_line days_said (serving (codes "--records" ∷ codes "days" ∷ codes "--keep" ∷ codes "30" ∷ [])) ≡ Some 30
  pub no_days : of_line days_said (serving []) ≡ Some 0
  pub second : of_line sync_said (serving (codes "--record" ∷ codes "b" ∷ codes "--sync" ∷ codes "second" ∷ [])) ≡ Some (Some Second)
  pub never : of_line sync_said (serving []) ≡ Some (Some Never)
  pub records : of_line (texts_at (codes "record")) (calling (codes "--csv" ∷ codes "--record" ∷ codes "c" ∷ []))
      ≡ Some (codes "a" ∷ codes "b" ∷ codes "c" ∷ [])
  pub denied : of_line expected_said (asking (codes "--expect" ∷ codes "deny" ∷ [])) ≡ Some (Some (Some Deny))
  pub anything : of_line expected_said (asking []) ≡ Some (Some None)
