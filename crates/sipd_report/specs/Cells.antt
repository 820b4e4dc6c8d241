-- A row of a report: a line of a table, or of CSV (RFC 4180).
use Rattle.std.specs.Prelude.{ℕ, ◌-◌, ◌==◌, Bool, ◌||◌, if◌then◌else◌, List, [], ◌∷◌, ◌++◌, length, replicate, codes}
use Rattle.std.specs.List.{flat_map, list_any}
use Rattle.std.specs.Str.{byte}
use Rattle.sipd_report.specs.declared.query.Form.{Form}
use Rattle.sipd_report.specs.declared.query.Form.TheVariants.{Table, Csv}
use Rattle.sipd_report.specs.declared.cells.Cells.{Cells}

-- a text with spaces behind it up to a width; a longer one is not cut
abbrev pub padded : ℕ → List ℕ → List ℕ
padded width text = text ++ replicate (width - length text) 32

-- a byte for which a field is quoted: a quote, a comma, CR or LF (RFC 4180 2.6)
abbrev pub is_special : ℕ → Bool
is_special b = b == byte "\"" || b == byte "," || b == 13 || b == 10

-- a byte of a quoted field; a quote is written twice (RFC 4180 2.7)
abbrev pub quoted_byte : ℕ → List ℕ
quoted_byte b = if b == byte "\"" then b ∷ b ∷ [] else b ∷ []

-- a field, quoted where it has to be
abbrev pub field_text : List ℕ → List ℕ
field_text text = if list_any is_special text then codes "\"" ++ flat_map quoted_byte text ++ codes "\"" else text

-- what stands between quotes, up to the one that ends it; a quote that is written twice is one
abbrev pub quoted_field : List ℕ → List ℕ
quoted_field [] = []
quoted_field (b ∷ []) = if b == byte "\"" then [] else b ∷ []
quoted_field (b ∷ c ∷ rest) = if b == byte "\"" then (if c == byte "\"" then b ∷ quoted_field rest else []) else b ∷ quoted_field (c ∷ rest)

-- what a field says (RFC 4180 2.5, 2.7)
abbrev pub field_of : List ℕ → List ℕ
field_of [] = []
field_of (b ∷ bs) = if b == byte "\"" then quoted_field bs else b ∷ bs

-- a cell that others follow
abbrev pub cell_text : Form → ℕ → List ℕ → List ℕ
cell_text Table width text = padded width text ++ codes "  "
cell_text Csv width text = field_text text ++ codes ","

-- the last cell of a row, and the row's end
abbrev pub last_cell_text : Form → List ℕ → List ℕ
last_cell_text Table text = text ++ 10 ∷ []
last_cell_text Csv text = field_text text ++ 13 ∷ 10 ∷ []

-- a row
abbrev pub row_text : Form → Cells → List ℕ
row_text form c =
    cell_text form 25 c.time ++ cell_text form 8 c.number ++ cell_text form 9 c.method ++ cell_text form 16 c.user ++ cell_text form 32 c.target
    ++ cell_text form 9 c.operation ++ cell_text form 6 c.rule ++ cell_text form 14 c.outcome ++ last_cell_text form c.minute

-- the names of the columns
abbrev pub column_names : Cells
column_names = record {
  time = codes "time";
  number = codes "number";
  method = codes "method";
  user = codes "user";
  target = codes "target";
  operation = codes "operation";
  rule = codes "rule";
  outcome = codes "outcome";
  minute = codes "minute";
}
