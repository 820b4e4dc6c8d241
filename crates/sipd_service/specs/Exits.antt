-- How the program ends where a server can't go on.
use Rattle.std.specs.Prelude.{◌≡◌}
use Rattle.sip_loop.specs.declared.audit_log.AuditFault.{AuditFault}
use Rattle.sip_loop.specs.declared.audit_log.AuditFault.TheVariants as audits
use Rattle.sip_loop.specs.declared.serve_error.ServeError.{ServeError}
use Rattle.sip_loop.specs.declared.serve_error.ServeError.TheVariants as serving
use Rattle.sipd_exit.specs.Exits.{IsPrintFault}
use Rattle.sipd_exit.specs.declared.device_fault.DeviceFault.{DeviceFault}
use Rattle.sipd_exit.specs.declared.device_fault.DeviceFault.TheVariants.{Other}
use Rattle.sipd_exit.specs.declared.exit.Exit.{Exit}
use Rattle.sipd_exit.specs.declared.exit.Exit.TheVariants.{Device, Memory, Recording}

-- what it is to who serves that a line of a decision couldn't be printed: a device's fault is told as one
abbrev pub fault_of_print : Exit → AuditFault
fault_of_print Memory = audits.NoMemory
fault_of_print exit = audits.Device

-- and how the device failed
abbrev pub device_of_print : Exit → DeviceFault
device_of_print (Device fault) = fault
device_of_print exit = Other

-- so it is told, and the device's fault kept
pub record IsTold (why : AuditFault) (fault : DeviceFault) : Type 0 where
  pub exit : Exit
  pub is_fault : IsPrintFault exit
  pub told : why ≡ fault_of_print exit
  pub kept : fault ≡ device_of_print exit

-- what a server that can't go on is to the program, where printing failed by some fault, if it did
abbrev pub exit_of_serve : ServeError → DeviceFault → Exit
exit_of_serve serving.NoMemory fault = Memory
exit_of_serve serving.Link fault = Device Other
exit_of_serve serving.Step fault = Device Other
exit_of_serve serving.Journal fault = Recording
exit_of_serve serving.Audit fault = Device fault
