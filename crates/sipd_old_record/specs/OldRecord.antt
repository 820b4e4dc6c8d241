-- What the first line of a file says that is to be a record.
use Rattle.std.specs.Prelude.{◌≡◌, ◌⊎◌, ◌+◌, ◌-◌, ◌^◌, ℕ, List, [], ◌∷◌, ◌++◌, length, count_by, min, Option, Some, None}
use Rattle.std.specs.Io.KnownBytes.{Consumes, IsAtEnd, Keeps}
use Rattle.std.specs.declared.io.ErrorKind.{ErrorKind}
use Rattle.sip_replay_script.specs.Devices.{IsFault}
use Rattle.sip_replay_script.specs.Lines.{is_end}
use Rattle.sip_journal.specs.RecordHead.{head_of}
use Rattle.sip_journal.specs.declared.record_head.RecordHead.{RecordHead}
use Rattle.sipd_exit.specs.Exits.{exit_of_kind}
use Rattle.sipd_exit.specs.declared.exit.Exit.{Exit}
use Rattle.sipd_exit.specs.declared.exit.Exit.TheVariants.{Memory, NoRecord, Script}
use Rattle.sipd_old_record.specs.Readers.{HasStopped, most_asks}

-- a byte was read, or a reader is at its end and stays so
abbrev pub ReadsByte : Option (List ℕ) → Option (List ℕ) → Option ℕ → Type 0
ReadsByte old new None = Keeps old new × IsAtEnd new
ReadsByte old new (Some byte) = Consumes old new (byte ∷ [])

-- a line was read of what a reader had, and the LF that ends it; or it is all that the reader had; or as much as is read of a line
abbrev pub IsLineRead : Option (List ℕ) → Option (List ℕ) → List ℕ → Type 0
IsLineRead old new line = Consumes old new (line ++ 10 ∷ []) ⊎ (Consumes old new line × (IsAtEnd new ⊎ (length line ≡ 200)))

-- the first line of what a reader had, without its LF; of one of more than 200 bytes these alone
pub record IsFirstLine (old new : Option (List ℕ)) (line : List ℕ) : Type 0 where
  pub single : count_by is_end line ≡ 0
  pub read : IsLineRead old new line

-- that line says a head
pub record SaysHead (old new : Option (List ℕ)) (head : RecordHead) : Type 0 where
  pub line : List ℕ
  pub first : IsFirstLine old new line
  pub says : head_of line ≡ Some head

-- it says none
pub record SaysNoHead (old new : Option (List ℕ)) : Type 0 where
  pub line : List ℕ
  pub first : IsFirstLine old new line
  pub none : head_of line ≡ None

-- A reader failed, or was interrupted again and again, which is said as that fault. It was asked so often before, where it tells that, and so
-- often by then.
pub record IsReaderFault (has_failed : Type 0) (before now : Option ℕ) (exit : Exit) : Type 0 where
  pub kind : ErrorKind
  pub same : exit ≡ exit_of_kind kind
  pub failed : IsFault kind → has_failed
  pub stopped : HasStopped has_failed most_asks before now

-- an error of the system: want of memory, or a fault of a device
pub record IsSystemFault (exit : Exit) : Type 0 where
  pub kind : ErrorKind
  pub same : exit ≡ exit_of_kind kind

-- Why no head is taken of what a reader had: memory ran out; or the reader failed; or its first line is none of a record.
abbrev pub IsRefused : Option (List ℕ) → Option (List ℕ) → Type 0 → Option ℕ → Option ℕ → Exit → Type 0
IsRefused old new has_failed before now exit =
    (exit ≡ Memory) ⊎ IsReaderFault has_failed before now exit ⊎ ((exit ≡ NoRecord) × SaysNoHead old new)

-- what some reader had began with a line that says this head
abbrev pub WasSaid : RecordHead → Type 0
WasSaid head = (old : Option (List ℕ)) × (new : Option (List ℕ)) × SaysHead old new head

-- How the program ends at a line of a file, where the line is said of a text in which so many lines more stand in front of that one, and so many
-- fewer, since those hold digests.
abbrev pub at_line_of_file : ℕ → ℕ → Exit → Exit
at_line_of_file more fewer (Script line) = Script (min (line - more + fewer) (2 ^ 64 - 1))
at_line_of_file more fewer exit = exit

-- the line of a record's file that is this one behind its first line
abbrev pub line_of_file : ℕ → ℕ
line_of_file line = min (line + 1) (2 ^ 64 - 1)
