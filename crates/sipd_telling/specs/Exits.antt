-- How the program ends where a record isn't told further.
use Rattle.std.specs.Prelude.{ℕ}
use Rattle.sip_retell.specs.declared.error.RetellError.{RetellError}
use Rattle.sip_retell.specs.declared.error.RetellError.TheVariants as retells
use Rattle.sipd_exit.specs.declared.device_fault.DeviceFault.TheVariants.{Other}
use Rattle.sipd_exit.specs.declared.exit.Exit.{Exit}
use Rattle.sipd_exit.specs.declared.exit.Exit.TheVariants.{Script, Device, Memory}
use Rattle.sipd_old_record.specs.OldRecord.{line_of_file}

-- behind so many lines
abbrev pub exit_of_retell : RetellError → ℕ → Exit
exit_of_retell retells.NoMemory lines = Memory
exit_of_retell (retells.Damaged line) lines = Script (line_of_file line)
exit_of_retell (retells.TooLong line) lines = Script (line_of_file line)
exit_of_retell (retells.NoConfiguration line e) lines = Script (line_of_file line)
exit_of_retell (retells.OtherFrame line key) lines = Script (line_of_file line)
exit_of_retell retells.Step lines = Script (line_of_file lines)
exit_of_retell retells.Read lines = Device Other
exit_of_retell retells.Listener lines = Device Other
