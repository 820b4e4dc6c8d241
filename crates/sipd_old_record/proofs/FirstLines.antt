-- The first line of what a reader has, read byte by byte.
use Rattle.std.proofs.Common.{◌≡◌, inr, ℕ, List, [], ◌∷◌, length, Option, Some, None, count_by}
use Rattle.std.specs.declared.io.ErrorKind.{ErrorKind}
use Rattle.std.specs.declared.io.ErrorKind.TheVariants.{OutOfMemory}
use Rattle.std.specs.Io.KnownBytes.{Consumes, Keeps}
use Rattle.std.proofs.KnownBytes.{Keeps-trans}
use Rattle.sip_replay_script.specs.Lines.{is_end}
use Rattle.sipd_exit.specs.Exits.{exit_of_kind}
use Rattle.sipd_exit.specs.declared.exit.Exit.{Exit}
use Rattle.sipd_exit.specs.declared.exit.Exit.TheVariants.{Memory}
use Rattle.sipd_old_record.specs.OldRecord.{IsFirstLine, IsSystemFault, ReadsByte}
use Rattle.sip_replay_script.proofs.Written.{keeps_consumes}

pub read_behind : (a b c : Option (List ℕ)) (found : Option ℕ) → Keeps a b → ReadsByte b c found → ReadsByte a c found
read_behind a b c None h r = (Keeps-trans a b c h r.0, r.1)
read_behind a b c (Some byte) h r = keeps_consumes a b c (byte ∷ []) h r

-- the front of the line is read, and has no LF
abbrev pub HasRead : Option (List ℕ) → Option (List ℕ) → List ℕ → Type 0
HasRead old now line = Consumes old now line × (count_by is_end line ≡ 0)

pub at_limit : (a b : Option (List ℕ)) (line : List ℕ) → HasRead a b line → length line ≡ 200 → IsFirstLine a b line
at_limit a b line h e = record { single = h.1; read = inr (h.0, inr e) }

pub system_fault : (kind : ErrorKind) (exit : Exit) → exit ≡ exit_of_kind kind → IsSystemFault exit
system_fault kind exit is = record { kind = kind; same = is }

pub no_memory : (exit : Exit) → exit ≡ Memory → IsSystemFault exit
no_memory exit is = record { kind = OutOfMemory; same = is }
