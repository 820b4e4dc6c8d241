-- Comma-separated values of a table: a line for each cell (RFC 4180).
use Rattle.std.specs.Prelude.{ℕ, Bool, true, false, if◌then◌else◌, List, [], ◌++◌, codes, decimal, drop, Option, Some, None}
use Rattle.std.specs.List.{flat_map}
use Rattle.sip_policy.specs.declared.operation.Operation.{Operation}
use Rattle.sip_config_types.specs.declared.config.Config.{Config}
use Rattle.sip_matrix.specs.declared.column.Column.{Column}
use Rattle.sip_matrix.specs.declared.table.PolicyTable.{PolicyTable}
use Rattle.sip_matrix.specs.Table.{table_of}
use Rattle.sipd_matrix.specs.Cells.{are_known, number_at}
use Rattle.sipd_matrix.specs.Text.{end_of, member_text, operation_word, user_text}
use Rattle.sipd_matrix_forms.specs.Cells.{Cell, is_split}
use Rattle.sipd_matrix_forms.specs.Outcome.{place_at, verdict_at}
use Rattle.sipd_report.specs.Cells.{field_text}

-- a field that others follow
abbrev pub cell_field : List ℕ → List ℕ
cell_field text = field_text text ++ codes ","

-- a number that others follow
abbrev pub number_field : ℕ → List ℕ
number_field number = decimal number ++ codes ","

-- who asks: nobody, or the users of a row
abbrev pub who_text : Config → Option (List ℕ) → List ℕ
who_text config None = codes "nobody"
who_text config (Some row) = drop 1 (flat_map (user_text config row) config.users)

-- the users of a row as a field
abbrev pub users_field : Config → List ℕ → List ℕ
users_field config row = cell_field (who_text config (Some row))

-- whose address it is: the asker's own alone, one of others alone, or any
abbrev pub whose_word : Bool → Bool → List ℕ
whose_word split true = codes "own"
whose_word true false = codes "others"
whose_word false false = codes "any"

-- the addresses of a class
abbrev pub target_text : Config → List Column → Column → List ℕ
target_text config columns class = drop 1 (flat_map (member_text config class) columns)

-- whether `self` means the addresses of a cell; to who is nobody each known address is
abbrev pub own_at : Config → Column → Option (List ℕ) → Bool → Bool
own_at config class None second = are_known config class
own_at config class (Some row) second = second

-- when: the first minute, and the one behind the last
abbrev pub span_fields : PolicyTable → ℕ → List ℕ
span_fields table piece = number_field piece ++ number_field (end_of table.pieces piece)

-- who asks for what, and for whom
abbrev pub question_fields : Config → Operation → PolicyTable → ℕ → Column → Option (List ℕ) → Bool → List ℕ
question_fields config operation table piece class row second =
    cell_field (who_text config row) ++ cell_field (operation_word operation)
    ++ cell_field (whose_word (is_split config operation table.columns piece class row) second)
    ++ cell_field (target_text config table.columns class)

-- the rule, its verdict, and where it goes
abbrev pub answer_fields : Config → Operation → Option (List ℕ) → Column → Bool → ℕ → List ℕ
answer_fields config operation row class own piece =
    number_field (number_at config operation row class own piece) ++ cell_field (verdict_at config operation row class own piece)
    ++ field_text (place_at config operation row class own piece) ++ codes "\r\n"

-- the line of a cell
abbrev pub cell_line : Config → Operation → PolicyTable → ℕ → Column → Option (List ℕ) → Bool → List ℕ
cell_line config operation table piece class row second =
    span_fields table piece ++ question_fields config operation table piece class row second
    ++ answer_fields config operation row class (own_at config class row second) piece

abbrev pub line_of : Config → Operation → PolicyTable → Cell → List ℕ
line_of config operation table cell = cell_line config operation table cell.piece cell.class cell.row cell.second

-- that of the second cell of a row, where there is one
abbrev pub second_line : Config → Operation → PolicyTable → ℕ → Column → Option (List ℕ) → List ℕ
second_line config operation table piece class row =
    if is_split config operation table.columns piece class row then cell_line config operation table piece class row true else []

-- those of a row
abbrev pub row_lines : Config → Operation → PolicyTable → ℕ → Column → Option (List ℕ) → List ℕ
row_lines config operation table piece class row =
    cell_line config operation table piece class row false ++ second_line config operation table piece class row

-- the same of a row of users
abbrev pub user_lines : Config → Operation → PolicyTable → ℕ → Column → List ℕ → List ℕ
user_lines config operation table piece class row = row_lines config operation table piece class (Some row)

-- those of a class
abbrev pub class_lines : Config → Operation → PolicyTable → ℕ → Column → List ℕ
class_lines config operation table piece class =
    row_lines config operation table piece class None ++ flat_map (user_lines config operation table piece class) table.rows

-- those of a piece of the day
abbrev pub piece_lines : Config → Operation → PolicyTable → ℕ → List ℕ
piece_lines config operation table piece = flat_map (class_lines config operation table piece) table.classes

-- the names of the fields
abbrev pub header : List ℕ
header = codes "from,until,who,operation,whose,target,rule,verdict,goes\r\n"

abbrev pub csv_of : Config → Operation → PolicyTable → List ℕ
csv_of config operation table = header ++ flat_map (piece_lines config operation table) table.pieces

-- the table of a configuration for an operation
abbrev pub csv_text : Config → Operation → List ℕ
csv_text config operation = csv_of config operation (table_of config.rules config.users config.own.domains)
