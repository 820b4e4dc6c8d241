-- How the program ends where a replay is refused.
use Rattle.std.specs.Prelude.{ℕ}
use Rattle.sip_replay.specs.declared.error.ReplayError.{ReplayError}
use Rattle.sip_replay.specs.declared.error.ReplayError.TheVariants as replays
use Rattle.sip_replay_script.specs.declared.print_stop.PrintStop.{PrintStop}
use Rattle.sip_replay_script.specs.declared.print_stop.PrintStop.TheVariants as prints
use Rattle.sip_replay.specs.resume.declared.record_error.RecordError.{RecordError}
use Rattle.sip_replay.specs.resume.declared.record_error.RecordError.TheVariants as records
use Rattle.sipd_exit.specs.declared.device_fault.DeviceFault.TheVariants.{Other}
use Rattle.sipd_exit.specs.declared.exit.Exit.{Exit}
use Rattle.sipd_exit.specs.declared.exit.Exit.TheVariants.{Script, Device, Memory, Recording}
use Rattle.sipd_old_record.specs.OldRecord.{line_of_file}

-- what a refused replay is to the program
abbrev pub exit_of_replay : ReplayError → Exit
exit_of_replay replays.NoMemory = Memory
exit_of_replay (replays.Script line) = Script line
exit_of_replay replays.Read = Device Other
exit_of_replay replays.Write = Device Other

-- what the refused replay of a record is to it, behind whose first line so many lines were read
abbrev pub exit_of_record : RecordError → ℕ → Exit
exit_of_record records.NoMemory lines = Memory
exit_of_record (records.Damaged line) lines = Script (line_of_file line)
exit_of_record (records.TooLong line) lines = Script (line_of_file line)
exit_of_record (records.NoConfiguration line e) lines = Script (line_of_file line)
exit_of_record (records.OtherFrame line key) lines = Script (line_of_file line)
exit_of_record records.Step lines = Script (line_of_file lines)
exit_of_record records.Read lines = Device Other
exit_of_record records.Write lines = Device Other
exit_of_record records.Journal lines = Recording

-- and what it is where the print isn't handed on
abbrev pub exit_of_print : PrintStop → Exit
exit_of_print prints.NoMemory = Memory
exit_of_print prints.Write = Device Other
