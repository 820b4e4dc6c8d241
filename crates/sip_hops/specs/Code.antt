-- The codes by which rows are found. No address depends on them.
use Rattle.std.specs.Prelude.{◌≡◌, ◌≤◌, ℕ, ◌+◌, ◌==◌, if◌then◌else◌, List, [], ◌∷◌, length, fold, drop}
use Rattle.std.specs.Prelude.{slice_index_or, Option, Some, None}
use Rattle.sip_base.specs.Code.{mixed}
use Rattle.sip_text.specs.Words.{without_case}
use Rattle.sip_hops.specs.declared.host_address.HostAddress.{HostAddress}

-- the code of a host, without case, and a port
unfoldable pub code_of : List ℕ → ℕ → ℕ
code_of host port = fold mixed (mixed 14695981039346656037 port) (without_case host)

abbrev pub row_code : HostAddress → ℕ
row_code row = code_of row.host row.port

-- the place of the first row with a code, where the first of these rows has a place
abbrev pub place_of : ℕ → ℕ → List HostAddress → Option ℕ
place_of code at [] = None
place_of code at (row ∷ rows) = if row_code row == code then Some at else place_of code (at + 1) rows

-- each row from a place on leads to the next row with its code
abbrev pub LeadOn : List HostAddress → List (Option ℕ) → ℕ → Type 0
LeadOn rows nexts start = (at : ℕ) (row : HostAddress) → start ≤ at → drop at rows ≡ row ∷ drop (at + 1) rows → slice_index_or nexts at None
    ≡ place_of (row_code row) (at + 1) (drop (at + 1) rows)

-- Each code leads to the first row with it, and each row to the next.
pub record AreChained (rows : List HostAddress) (first : ℕ → Option ℕ) (nexts : List (Option ℕ)) : Type 0 where
  pub begins : (code : ℕ) → first code ≡ place_of code 0 rows
  pub leads : LeadOn rows nexts 0
  pub as_many : length nexts ≡ length rows
