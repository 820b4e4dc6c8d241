-- The table of addresses, and what programs get.
use Rattle.std.specs.Prelude.{ℕ, ℤ, List, [], ◌++◌, Option, None, Some}
use Rattle.std.specs.List.{flat_map}
use Rattle.sipd_calls.specs.Moments.{title}
use Rattle.sipd_calls.specs.declared.notation.Notation.{Notation}
use Rattle.sipd_sources.specs.declared.source.Source.{Source}
use Rattle.sipd_sources.specs.Cells.{names, source_row}
use Rattle.sipd_sources.specs.Program.{source_text}
use Rattle.sipd_sources.specs.Ranking.{ranked_of}
use Rattle.sipd_sources.specs.Told.{Known}

-- an address, in a row of the table or for programs
abbrev pub row_in : Option Notation → Source → List ℕ
row_in None s = source_row s
row_in (Some notation) s = source_text notation s

-- one that stands behind its place
abbrev pub entry_in : Option Notation → ℕ × Source → List ℕ
entry_in form entry = row_in form entry.1

-- what stands above the rows; what programs get begins with the names of the columns, once for all records
abbrev pub head_in : Option Notation → ℤ → ℕ → List ℕ
head_in None offset at = title offset at ++ names
head_in (Some notation) offset at = []

-- the addresses of a day up to a moment: the one with the most wrong credentials first, and of those with as many the lower address
abbrev pub sources_text : Option Notation → ℤ → ℕ → Known → List ℕ
sources_text form offset at known = head_in form offset at ++ flat_map (entry_in form) (ranked_of known.rows)
