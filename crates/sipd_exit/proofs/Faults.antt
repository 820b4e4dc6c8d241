-- What an error of the system is that came of printing.
use Rattle.std.proofs.Common.{◌≡◌, sym, subst}
use Rattle.std.specs.declared.io.ErrorKind.{ErrorKind}
use Rattle.std.specs.declared.io.ErrorKind.TheVariants.{OutOfMemory}
use Rattle.sipd_exit.specs.Exits.{IsPrintFault, exit_of_kind}
use Rattle.sipd_exit.specs.declared.exit.Exit.{Exit}

of_kind : (kind : ErrorKind) → IsPrintFault (exit_of_kind kind)
of_kind OutOfMemory = tt
of_kind kind = tt

pub is_print_fault : (kind : ErrorKind) (exit : Exit) → exit ≡ exit_of_kind kind → IsPrintFault exit
is_print_fault kind exit is = subst IsPrintFault (sym is) (of_kind kind)
