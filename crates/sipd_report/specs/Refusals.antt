-- Why a report was refused, and what was written then.
use Rattle.std.specs.Prelude.{◌≡◌, ⊤, ℕ, List, ◌++◌, Option, None, Some}
use Rattle.std.specs.Io.KnownBytes.{Appends}
use Rattle.sip_replay_script.specs.Devices.{WritesFront}
use Rattle.sipd_report.specs.declared.error.ReportError.{ReportError}
use Rattle.sipd_report.specs.declared.error.ReportError.TheVariants.{NoMemory, Read, Write}
use Rattle.sipd_report.specs.declared.query.Query.{Query}
use Rattle.sipd_report.specs.Cells.{row_text, column_names}
use Rattle.sipd_report.specs.Entries.{fronts_of, asked_of}
use Rattle.sip_replay_script.specs.Lines.{Reading}
use Rattle.sipd_report.specs.Lines.{GivesLine}
use Rattle.sipd_report.specs.Report.{rows_text, report_text}
use Rattle.sipd_report.specs.Steps.{line_text}

-- an input begins with these lines, where its bytes are known
abbrev pub BeginsWith : List (List ℕ) → Option (List ℕ) → Type 0
BeginsWith lines None = ⊤
BeginsWith lines (Some bytes) = (rest : List (List ℕ)) × (fronts_of bytes ≡ lines ++ rest)

-- the names of the columns and the rows of the first lines of an input were written, each whole, and nothing else
pub record WritesRows (q : Query) (input old new : Option (List ℕ)) : Type 0 where
  pub lines : List (List ℕ)
  pub begins : BeginsWith lines input
  pub written : Appends old new (row_text q.form column_names ++ rows_text q (asked_of q lines))

-- a front of the report of an input was written, where its bytes are known
abbrev pub WritesPart : Query → Option (List ℕ) → Option (List ℕ) → Option (List ℕ) → Type 0
WritesPart q None old new = ⊤
WritesPart q (Some bytes) old new = WritesFront old new (report_text q bytes)

-- What holds at each refusal: what was written is a front of the report. Read is answered where the reader failed, or was asked as
-- often as it may be, and then no row was cut; Write, where the writer gave up.
abbrev pub IsRefused : Query → Option (List ℕ) → Option (List ℕ) → Option (List ℕ) → Type 0 → Type 0 → ReportError → Type 0
IsRefused q input old new reader_stopped writer_stopped NoMemory = WritesPart q input old new
IsRefused q input old new reader_stopped writer_stopped Read = WritesRows q input old new × reader_stopped
IsRefused q input old new reader_stopped writer_stopped Write = WritesPart q input old new × writer_stopped

-- ---- inside

-- why no byte is read
abbrev pub ReadStops : Type 0 → ReportError → Type 0
ReadStops reader_stopped NoMemory = ⊤
ReadStops reader_stopped Read = reader_stopped
ReadStops reader_stopped Write = ⊥

-- why a text wasn't written, or not whole: it couldn't be made, and nothing was written, or the writer gave up within it
abbrev pub TextStops : Option (List ℕ) → Option (List ℕ) → List ℕ → Type 0 → ReportError → Type 0
TextStops old new text writer_stopped NoMemory = new ≡ old
TextStops old new text writer_stopped Read = ⊥
TextStops old new text writer_stopped Write = WritesFront old new text × writer_stopped

-- a line was given, and a front of what is written for it was written
pub record StopsAtLine (q : Query) (old new : Reading) (before after written output : Option (List ℕ)) : Type 0 where
  pub line : List ℕ
  pub given : GivesLine old new before after line
  pub writes : WritesFront written output (line_text q line)

-- why the next line wasn't taken
abbrev pub LineStops : Query → Reading → Reading → Option (List ℕ) → Option (List ℕ) → Option (List ℕ) → Option (List ℕ) → Type 0 → Type 0 → ReportError → Type 0
LineStops q old new before after written output reader_stopped writer_stopped NoMemory = output ≡ written
LineStops q old new before after written output reader_stopped writer_stopped Read = (output ≡ written) × reader_stopped
LineStops q old new before after written output reader_stopped writer_stopped Write = StopsAtLine q old new before after written output × writer_stopped
