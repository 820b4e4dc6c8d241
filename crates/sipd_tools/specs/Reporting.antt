-- What `report` asks for, and prints.
use Rattle.std.specs.Prelude.{◌≡◌, ℕ, ℤ, pos, Bool, true, false, List, length, Option, Some, None, option_map, string_bytes}
use Rattle.std.specs.Option.{option_copied}
use Rattle.sip_config_types.specs.declared.config.Config.{Config}
use Rattle.sipd_arguments.specs.declared.call.ReportCall.{ReportCall}
use Rattle.sipd_exit.specs.declared.device_fault.DeviceFault.TheVariants.{Other}
use Rattle.sipd_exit.specs.declared.exit.Exit.{Exit}
use Rattle.sipd_exit.specs.declared.exit.Exit.TheVariants.{Device, Memory}
use Rattle.sipd_report.specs.declared.error.ReportError.{ReportError}
use Rattle.sipd_report.specs.declared.error.ReportError.TheVariants.{NoMemory, Read, Write}
use Rattle.sipd_report.specs.declared.query.Form.{Form}
use Rattle.sipd_report.specs.declared.query.Form.TheVariants.{Table, Csv}
use Rattle.sipd_report.specs.declared.query.Query.{Query}
use Rattle.sipd_report.specs.Refusals.{IsRefused}
use Rattle.sipd_report.specs.Report.{Reports}
use Rattle.sipd_report.specs.Said.{time_in}
use Rattle.sipd_report.specs.declared.zone.Zone.{Zone}
use Rattle.sipd_tools.specs.Against.{IsStated}
use Rattle.sipd_tools.specs.Clocks.{HasZonesOf}

-- how the program ends where a report can't be made, or what a log asked can't be told
abbrev pub exit_of_report : ReportError → Exit
exit_of_report NoMemory = Memory
exit_of_report Read = Device Other
exit_of_report Write = Device Other

abbrev pub form_of : Bool → Form
form_of true = Csv
form_of false = Table

-- the offset of the office's clock: that of a stated configuration where a file is named, and else none, which is UTC
abbrev pub IsOffset : {A : Type 0} → Option A → ℤ → Type 0
IsOffset None ahead = ahead ≡ pos 0
IsOffset (Some path) ahead = (config : Config) × IsStated config × (ahead ≡ config.offset)

-- what a call asks for, by a clock that is so far ahead of UTC, and from the moments of some zones on as these say
pub record AsksFor (call : ReportCall) (ahead : ℤ) (zones : List Zone) (query : Query) : Type 0 where
  pub since : query.since ≡ time_in (option_map string_bytes call.chosen.since)
  pub until : query.until ≡ time_in (option_map string_bytes call.chosen.until)
  pub user : option_copied query.user ≡ option_map string_bytes call.chosen.user
  pub target : option_copied query.target ≡ option_map string_bytes call.chosen.target
  pub rule : query.rule ≡ call.chosen.rule
  pub denied : query.denied ≡ call.chosen.denied
  pub outcome : option_copied query.outcome ≡ option_map string_bytes call.chosen.outcome
  pub offset : query.offset ≡ ahead
  pub zones_are : query.zones.now ≡ zones
  pub form : query.form ≡ form_of call.csv

-- a front of a report was printed, and it ends as that refusal does
pub record EndsReporting (query : Query) (input old new : Option (List ℕ)) (reader_stopped writer_stopped : Type 0) (exit : Exit) : Type 0 where
  pub why : ReportError
  pub refused : IsRefused query input old new reader_stopped writer_stopped why
  pub same : exit ≡ exit_of_report why

-- the report of an input was printed, of what is asked for, by the clock as a configuration and the records say that it was set
pub record MakesReport (call : ReportCall) (input old new : Option (List ℕ)) : Type 0 where
  pub ahead : ℤ
  pub zones : List Zone
  pub query : Query
  pub none : ℕ
  pub clock : IsOffset call.config ahead
  pub zones_said : HasZonesOf (length call.records.items) zones
  pub asked : AsksFor call ahead zones query
  pub reports : Reports query input old new none
