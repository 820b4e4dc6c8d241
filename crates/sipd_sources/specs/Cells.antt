-- A row of the table of addresses: a line of 80 columns, where no cell is longer than its column; and its head.
use Rattle.std.specs.Prelude.{ℕ, List, [], ◌∷◌, ◌++◌, codes, decimal}
use Rattle.sip_uri.specs.Addresses.{ip_text}
use Rattle.sipd_calls.specs.Cells.{cell}
use Rattle.sipd_calls.specs.Moments.{start_text}
use Rattle.sipd_sources.specs.declared.source.Source.{Source}
use Rattle.sipd_sources.specs.declared.source.SourceMoment.{SourceMoment}

-- the names of the columns
abbrev pub names : List ℕ
names = codes "address         heard    asked  proven wrong names first          last\n"

abbrev pub address_cell : List ℕ → List ℕ
address_cell ip = cell 15 (ip_text ip)

abbrev pub count_cell : ℕ → ℕ → List ℕ
count_cell width count = cell width (decimal count)

-- a moment on the office's clock of then
abbrev pub first_cell : SourceMoment → List ℕ
first_cell moment = cell 14 (start_text moment.offset moment.at)

-- the same at the end of a row
abbrev pub last_cell : SourceMoment → List ℕ
last_cell moment = start_text moment.offset moment.at ++ 10 ∷ []

-- the address, how many datagrams came from there, and how many of these were asked for a credential
abbrev pub heard_cells : Source → List ℕ
heard_cells s = address_cell s.ip ++ count_cell 8 s.heard ++ count_cell 6 s.challenged

-- how many were proven, gave a wrong credential, and how many names they tried
abbrev pub proven_cells : Source → List ℕ
proven_cells s = count_cell 6 s.proven ++ count_cell 5 s.wrong ++ count_cell 5 s.names

-- a row: 15, 8, 6, 6, 5, 5, 14 and 14 columns, with a space between each two
abbrev pub source_row : Source → List ℕ
source_row s = heard_cells s ++ proven_cells s ++ first_cell s.first ++ last_cell s.last
