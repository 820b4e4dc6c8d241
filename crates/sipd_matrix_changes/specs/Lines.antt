-- The text of a change: a line for each cell of which two configurations make something else.
use Rattle.std.specs.Prelude.{ℕ, Bool, true, false, if◌then◌else◌, List, [], ◌++◌, codes, Option, Some, None}
use Rattle.std.specs.List.{flat_map}
use Rattle.sip_policy.specs.declared.operation.Operation.{Operation}
use Rattle.sip_policy.specs.declared.user.User.{User}
use Rattle.sip_policy.specs.User.{is_users_name}
use Rattle.sip_config_types.specs.declared.config.Config.{Config}
use Rattle.sip_matrix.specs.declared.column.Column.{Column}
use Rattle.sip_matrix.specs.declared.table.PolicyTable.{PolicyTable}
use Rattle.sipd_matrix.specs.Cells.{value_text}
use Rattle.sipd_matrix.specs.Text.{clock_text, column_text, end_of}
use Rattle.sipd_matrix_changes.specs.Both.{are_asked_alike_by_both, ask_alike_of_both, proven_to, table_of}
use Rattle.sipd_matrix_changes.specs.Change.{has_question, is_told, own_to}

-- a piece of the day, as `8:00-18:00`
abbrev pub span_text : List ℕ → ℕ → List ℕ
span_text pieces piece = clock_text piece ++ codes "-" ++ clock_text (end_of pieces piece)

-- what a configuration says in a cell: its rule, and what comes of it
abbrev pub value_of : Config → Operation → Option (List ℕ) → Column → Bool → ℕ → List ℕ
value_of config operation row class own piece = value_text config operation (proven_to config row) class (own_to config row class own) piece

-- a user behind a blank, if he asks as a row does
abbrev pub user_text : Config → Config → List ℕ → User → List ℕ
user_text old new row user = if ask_alike_of_both old new row user.name then codes " " ++ user.name else []

-- the same of a user of the new configuration, unless he is one of the old
abbrev pub new_user_text : Config → Config → List ℕ → User → List ℕ
new_user_text old new row user = if is_users_name old.users user.name then [] else user_text old new row user

-- who asks
abbrev pub row_text : Config → Config → Option (List ℕ) → List ℕ
row_text old new None = codes " nobody"
row_text old new (Some row) = flat_map (user_text old new row) old.users ++ flat_map (new_user_text old new row) new.users

-- for whom: the asker's own address, those of others where there is such a one, too, or any
abbrev pub target_words : Bool → Bool → List ℕ
target_words true some_own = codes " for their own of"
target_words false true = codes " for another of"
target_words false false = codes " for"

-- a column behind a blank, if it is of a class
abbrev pub member_text : Config → Config → Column → Column → List ℕ
member_text old new class column = if are_asked_alike_by_both old new class column then codes " " ++ column_text column else []

-- both rules, with what comes of each
abbrev pub values_text : Config → Config → Operation → Option (List ℕ) → Column → Bool → ℕ → List ℕ
values_text old new operation row class own piece =
    value_of old operation row class own piece ++ codes " becomes " ++ value_of new operation row class own piece

-- who asks for whom
abbrev pub askers_text : Config → Config → List Column → Column → Option (List ℕ) → Bool → List ℕ
askers_text old new columns class row own =
    codes " as" ++ row_text old new row ++ target_words own (has_question old new columns row class true)
    ++ flat_map (member_text old new class) columns

-- the line of a cell
abbrev pub cell_line : Config → Config → Operation → PolicyTable → ℕ → Column → Option (List ℕ) → Bool → List ℕ
cell_line old new operation table piece class row own =
    span_text table.pieces piece ++ codes " " ++ values_text old new operation row class own piece
    ++ askers_text old new table.columns class row own ++ codes "\n"

-- the same, if it is told
abbrev pub own_line : Config → Config → Operation → PolicyTable → ℕ → Column → Option (List ℕ) → Bool → List ℕ
own_line old new operation table piece class row own =
    if is_told old new operation table.columns piece class row own then cell_line old new operation table piece class row own else []

-- those of a row: for other addresses, and for own ones
abbrev pub row_lines : Config → Config → Operation → PolicyTable → ℕ → Column → Option (List ℕ) → List ℕ
row_lines old new operation table piece class row =
    own_line old new operation table piece class row false ++ own_line old new operation table piece class row true

-- the same of a row of users
abbrev pub user_lines : Config → Config → Operation → PolicyTable → ℕ → Column → List ℕ → List ℕ
user_lines old new operation table piece class row = row_lines old new operation table piece class (Some row)

-- those of a class: nobody's, and those of each row of users
abbrev pub class_lines : Config → Config → Operation → PolicyTable → ℕ → Column → List ℕ
class_lines old new operation table piece class =
    row_lines old new operation table piece class None ++ flat_map (user_lines old new operation table piece class) table.rows

-- those of a piece of the day
abbrev pub piece_lines : Config → Config → Operation → PolicyTable → ℕ → List ℕ
piece_lines old new operation table piece = flat_map (class_lines old new operation table piece) table.classes

-- all
abbrev pub lines_of : Config → Config → Operation → PolicyTable → List ℕ
lines_of old new operation table = flat_map (piece_lines old new operation table) table.pieces

-- what changes between two configurations, of an operation
abbrev pub changes_text : Config → Config → Operation → List ℕ
changes_text old new operation = lines_of old new operation (table_of old new)
