-- A log that is asked again: what is written, and how far it came where it was refused.
use Rattle.std.specs.Prelude.{◌≡◌, ⊤, ℕ, List, Option, None, Some}
use Rattle.std.specs.Io.KnownBytes.{Appends}
use Rattle.sip_config_types.specs.declared.config.Config.{Config}
use Rattle.sip_replay_script.specs.Devices.{WritesFront}
use Rattle.sipd_report.specs.declared.error.ReportError.{ReportError}
use Rattle.sipd_report.specs.declared.error.ReportError.TheVariants.{NoMemory, Read, Write}
use Rattle.sipd_report.specs.Entries.{fronts_of}
use Rattle.sip_replay_script.specs.Lines.{Reading}
use Rattle.sipd_report.specs.Lines.{GivesLine}
use Rattle.sipd_report.specs.Refusals.{BeginsWith}
use Rattle.sipd_expect.specs.LogTelling.{line_text, lines_text, log_text}
use Rattle.sipd_expect.specs.Counts.{after_line, counts_of}
use Rattle.sipd_expect.specs.declared.counts.Counts.{Counts}

-- exactly what is told of the log was written, and its lines were counted, where its bytes are known
abbrev pub AsksAgain : Config → Option (List ℕ) → Option (List ℕ) → Option (List ℕ) → Counts → Type 0
AsksAgain config None old new counts = ⊤
AsksAgain config (Some bytes) old new counts = Appends old new (log_text config bytes) × (counts ≡ counts_of config (fronts_of bytes))

-- what is told of the first lines of a log was written, each whole, and nothing else
pub record WritesLines (config : Config) (input old new : Option (List ℕ)) : Type 0 where
  pub lines : List (List ℕ)
  pub begins : BeginsWith lines input
  pub written : Appends old new (lines_text config lines)

-- a front of what is told of it was, where its bytes are known
abbrev pub WritesPart : Config → Option (List ℕ) → Option (List ℕ) → Option (List ℕ) → Type 0
WritesPart config None old new = ⊤
WritesPart config (Some bytes) old new = WritesFront old new (log_text config bytes)

-- What holds at each refusal: what was written is a front of what is told. Read is answered where the reader failed, or was asked as often as
-- it may be, and then no line was cut; Write, where the writer gave up.
abbrev pub IsRefused : Config → Option (List ℕ) → Option (List ℕ) → Option (List ℕ) → Type 0 → Type 0 → ReportError → Type 0
IsRefused config input old new reader_stopped writer_stopped NoMemory = WritesPart config input old new
IsRefused config input old new reader_stopped writer_stopped Read = WritesLines config input old new × reader_stopped
IsRefused config input old new reader_stopped writer_stopped Write = WritesPart config input old new × writer_stopped

-- ---- inside

-- a line was taken: it was given, counted, and what is told of it was written
pub record TakesLine (config : Config) (old new : Reading) (before after : Option (List ℕ)) (t u : Counts) (written output : Option (List ℕ)) : Type 0 where
  pub line : List ℕ
  pub given : GivesLine old new before after line
  pub counted : u ≡ after_line config line t
  pub appended : Appends written output (line_text config line)

-- a line was given, and a front of what is told of it was written
pub record StopsAtLine (config : Config) (old new : Reading) (before after written output : Option (List ℕ)) : Type 0 where
  pub line : List ℕ
  pub given : GivesLine old new before after line
  pub writes : WritesFront written output (line_text config line)

-- why the next line wasn't taken
abbrev pub LineStops : Config → Reading → Reading → Option (List ℕ) → Option (List ℕ) → Option (List ℕ) → Option (List ℕ) → Type 0 → Type 0 → ReportError → Type 0
LineStops config old new before after written output reader_stopped writer_stopped NoMemory = output ≡ written
LineStops config old new before after written output reader_stopped writer_stopped Read = (output ≡ written) × reader_stopped
LineStops config old new before after written output reader_stopped writer_stopped Write = StopsAtLine config old new before after written output × writer_stopped
