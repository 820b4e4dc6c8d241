-- How the program ends.
use Rattle.std.specs.Prelude.{ℕ, ⊤}
use Rattle.std.specs.declared.io.ErrorKind.{ErrorKind}
use Rattle.std.specs.declared.io.ErrorKind.TheVariants.{AddrInUse, AddrNotAvailable, BrokenPipe, NotFound, OutOfMemory, PermissionDenied, QuotaExceeded, StorageFull}
use Rattle.sip_config.specs.values.declared.error.ConfigError.{ConfigError}
use Rattle.sip_config.specs.values.declared.error.ConfigError.TheVariants as configurations
use Rattle.sipd_exit.specs.declared.device_fault.DeviceFault.{DeviceFault}
use Rattle.sipd_exit.specs.declared.device_fault.DeviceFault.TheVariants.{PortTaken, NoSuchAddress, NoFile, NoRightToRead, DiskFull, OutputClosed, Other}
use Rattle.sipd_exit.specs.declared.exit.Exit.{Exit}
use Rattle.sipd_exit.specs.declared.exit.Exit.TheVariants.{Usage, Configuration, LongConfiguration, Script, Device, Memory, Stack, Question, NoRecord, OtherConfiguration}
use Rattle.sipd_exit.specs.declared.exit.Exit.TheVariants.{BareRecord, Changed, Missing, OtherFrame, PipedRecord, NewRecord, NoShorter, Recording, Unexpected}
use Rattle.sipd_exit.specs.declared.exit.Exit.TheVariants.{OtherPolicy, OtherDecision}
use Rattle.sipd_reload.specs.declared.file_fault.FileFault.{FileFault}
use Rattle.sipd_reload.specs.declared.file_fault.FileFault.TheVariants as files

-- exit statuses (this project's profile)
abbrev pub status_of : Exit → ℕ
status_of (Usage text) = 1
status_of (Configuration number) = 2
status_of LongConfiguration = 2
status_of (Script line) = 3
status_of (Device fault) = 4
status_of Memory = 5
status_of (Stack bytes needed) = 5
status_of (Question text) = 1
status_of NoRecord = 3
status_of OtherConfiguration = 3
status_of BareRecord = 3
status_of (Changed line) = 3
status_of Missing = 3
status_of OtherFrame = 3
status_of PipedRecord = 4
status_of NewRecord = 4
status_of NoShorter = 3
status_of Recording = 4
status_of Unexpected = 2
status_of OtherPolicy = 1
status_of OtherDecision = 6

-- what a refused configuration is to the program
abbrev pub exit_of_config : ConfigError → Exit
exit_of_config configurations.NoMemory = Memory
exit_of_config configurations.BadToml = Configuration 2
exit_of_config configurations.MissingKey = Configuration 3
exit_of_config configurations.BadValue = Configuration 4
exit_of_config configurations.DuplicateRule = Configuration 5
exit_of_config configurations.UnknownHop = Configuration 6
exit_of_config configurations.UnknownGroup = Configuration 7
exit_of_config configurations.TooMany = Configuration 8

-- what it is to the program that the bytes of a configuration's file aren't read
abbrev pub exit_of_file : FileFault → Exit
exit_of_file files.NoMemory = Memory
exit_of_file files.Gone = Device NoFile
exit_of_file files.TooLong = LongConfiguration
exit_of_file files.Device = Device Other

-- which fault of the system an error of this kind is
abbrev pub fault_of : ErrorKind → DeviceFault
fault_of AddrInUse = PortTaken
fault_of AddrNotAvailable = NoSuchAddress
fault_of NotFound = NoFile
fault_of PermissionDenied = NoRightToRead
fault_of StorageFull = DiskFull
fault_of QuotaExceeded = DiskFull
fault_of BrokenPipe = OutputClosed
fault_of kind = Other

-- what an error of the system is to the program: want of memory, or a fault
abbrev pub exit_of_kind : ErrorKind → Exit
exit_of_kind OutOfMemory = Memory
exit_of_kind kind = Device (fault_of kind)

-- why something isn't printed: memory ran out, or the device failed
abbrev pub IsPrintFault : Exit → Type 0
IsPrintFault Memory = ⊤
IsPrintFault (Device fault) = ⊤
IsPrintFault exit = ⊥
