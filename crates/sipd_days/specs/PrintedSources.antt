-- What `sources` prints. What a file holds no clause can say: for whatever records the files hold, it is printed of these.
use Rattle.std.specs.Prelude.{◌≡◌, ℕ, zero, suc, ℤ, List, length, map, string_bytes, Option, None, Some}
use Rattle.std.specs.Io.KnownBytes.{Appends}
use Rattle.sipd_arguments.specs.declared.call.SourcesCall.{SourcesCall}
use Rattle.sipd_calls.specs.declared.notation.Notation.{Notation}
use Rattle.sipd_sources.specs.declared.filter.SourceFilter.{SourceFilter}
use Rattle.sipd_sources.specs.Program.{columns}
use Rattle.sipd_record_files.specs.Named.{AreNamed}
use Rattle.sipd_days.specs.Choosing.{IsFilter, form_of}
use Rattle.sipd_days.specs.DayAt.{WasTableAt}
use Rattle.sipd_days.specs.declared.day_at.DayTable.TheVariants as tables

-- each datagram
abbrev pub every_datagram : SourceFilter
every_datagram = record { since = None; until = None; from = None }

-- it is the text of a record's addresses, all of which was told
pub record WereSources (form : Option Notation) (filter : SourceFilter) (text : List ℕ) : Type 0 where
  pub taken : ℤ
  pub offset : ℤ
  pub was : WasTableAt (tables.Sources filter) form None None text taken offset

-- the addresses of a record were printed, all of which was told
pub record PrintsOne (form : Option Notation) (filter : SourceFilter) (old new : Option (List ℕ)) : Type 0 where
  pub text : List ℕ
  pub taken : ℤ
  pub offset : ℤ
  pub was : WasTableAt (tables.Sources filter) form None None text taken offset
  pub printed : Appends old new text

-- one record more was printed behind others
pub record PrintsMore (PrintsOthers PrintsLast : Option (List ℕ) → Type 0) : Type 0 where
  pub between : Option (List ℕ)
  pub others : PrintsOthers between
  pub last : PrintsLast between

-- so many records were printed, one after the other
abbrev pub PrintsEach : Option Notation → SourceFilter → ℕ → Option (List ℕ) → Option (List ℕ) → Type 0
PrintsEach form filter zero old new = new ≡ old
PrintsEach form filter (suc count) old new = PrintsMore (λ between. PrintsEach form filter count old between) (λ between. PrintsOne form filter between new)

-- the names of the columns were, where programs get it
abbrev pub PrintsColumns : Option Notation → Option (List ℕ) → Option (List ℕ) → Type 0
PrintsColumns None old new = new ≡ old
PrintsColumns (Some notation) old new = Appends old new (columns notation)

-- all that `sources` asks for was
pub record PrintsSources (call : SourcesCall) (old new : Option (List ℕ)) : Type 0 where
  pub filter : SourceFilter
  pub between : Option (List ℕ)
  pub chosen : IsFilter call.chosen filter
  pub names : PrintsColumns (form_of call.csv call.json) old between
  pub files : List (List ℕ)
  pub named : AreNamed (map string_bytes call.records.items) files
  pub records : PrintsEach (form_of call.csv call.json) filter (length files) between new
