-- The text of a table: for each piece of the day a line for each class of addresses, and in it a cell for each row of who asks.
use Rattle.std.specs.Prelude.{ℕ, ◌/◌, ◌%◌, ◌==◌, nat_lt, if◌then◌else◌, List, [], ◌++◌, codes, decimal, length, drop, find, unwrap_or, ℤ, pos, negsuc, ◌+◌, Some, None}
use Rattle.std.specs.Prelude.{Bool, not, ◌&&◌}
use Rattle.std.specs.List.{flat_map, list_any}
use Rattle.std.specs.Str.{bytes_eq}
use Rattle.sip_policy.specs.declared.operation.Operation.{Operation}
use Rattle.sip_policy.specs.declared.user.User.{User}
use Rattle.sip_policy.specs.declared.rule.Rule.{Rule}
use Rattle.sip_policy.specs.Operation.{matches_operation}
use Rattle.sip_config_types.specs.declared.config.Config.{Config}
use Rattle.sip_matrix.specs.declared.column.Column.{Column}
use Rattle.sip_matrix.specs.declared.column.Column.TheVariants.{Named, Begins, Elsewhere}
use Rattle.sip_matrix.specs.declared.table.PolicyTable.{PolicyTable}
use Rattle.sip_matrix.specs.Asker.{ask_alike}
use Rattle.sip_matrix.specs.Column.{are_asked_alike}
use Rattle.sip_matrix.specs.Table.{table_of}
use Rattle.sipd_matrix.specs.Cells.{cell_text, numbers_of}
use Rattle.sipd_matrix.specs.Unused.{hop_line, is_named, user_lines}

-- ---- words

-- the blanks that fill a field of ten behind so many bytes
abbrev pub blanks_behind : ℕ → List ℕ
blanks_behind n = if nat_lt n 10 then drop n (codes "          ") else []

-- a word in a field of ten, and a blank behind it
abbrev pub padded : List ℕ → List ℕ
padded word = word ++ blanks_behind (length word) ++ codes " "

abbrev pub operation_word : Operation → List ℕ
operation_word Operation.Register = codes "register"
operation_word Operation.List = codes "list"
operation_word (Operation.Send method) = method

-- a whole number in decimal
abbrev pub signed : ℤ → List ℕ
signed (pos n) = decimal n
signed (negsuc n) = codes "-" ++ decimal (n + 1)

-- a minute of the day, as `8:05`
abbrev pub clock_text : ℕ → List ℕ
clock_text minute = decimal (minute / 60) ++ codes ":" ++ decimal (minute % 60 / 10) ++ decimal (minute % 10)

-- where a piece of the day ends: where the next one begins, or at midnight
abbrev pub end_of : List ℕ → ℕ → ℕ
end_of pieces piece = unwrap_or (find (λ next. nat_lt piece next) pieces) 1440

-- the addresses of a column: one, those that begin so and have no longer prefix and no name of their own, or those at all other hosts
abbrev pub column_text : Column → List ℕ
column_text (Named aor) = aor.user ++ codes "@" ++ aor.host
column_text (Begins aor) = aor.user ++ codes "*@" ++ aor.host
column_text Elsewhere = codes "any other host"

-- ---- lines

-- a column behind a blank, if it is of a class
abbrev pub member_text : Config → Column → Column → List ℕ
member_text config class column =
    if are_asked_alike config.rules config.users config.own.domains class column then codes " " ++ column_text column else []

-- the cell of a row of users, in its field
abbrev pub field_text : Config → Operation → List Column → Column → ℕ → List ℕ → List ℕ
field_text config operation columns class piece row = padded (cell_text config operation columns class piece (Some row))

-- the cells of a class, and its addresses
abbrev pub class_line : Config → Operation → PolicyTable → ℕ → Column → List ℕ
class_line config operation table piece class =
    padded (cell_text config operation table.columns class piece None)
    ++ flat_map (field_text config operation table.columns class piece) table.rows
    ++ flat_map (member_text config class) table.columns
    ++ codes "\n"

-- who asks, above the cells
abbrev pub head_line : PolicyTable → List ℕ
head_line table = padded (codes "nobody") ++ flat_map padded table.rows ++ codes " asks for\n"

-- a piece of the day
abbrev pub piece_lines : Config → Operation → PolicyTable → ℕ → List ℕ
piece_lines config operation table piece =
    codes "\nfrom " ++ clock_text piece ++ codes "\n" ++ head_line table ++ flat_map (class_line config operation table piece) table.classes

-- a user behind a blank, if he asks as a row does
abbrev pub user_text : Config → List ℕ → User → List ℕ
user_text config row user = if ask_alike config.rules config.users row user.name then codes " " ++ user.name else []

-- a group, if some rule names it
abbrev pub named_group : Config → List ℕ → List ℕ
named_group config group = if is_named config.rules group then codes ", of " ++ group else []

-- the groups of a user, if he has this name
abbrev pub groups_text : Config → List ℕ → User → List ℕ
groups_text config row user = if bytes_eq user.name row then flat_map (named_group config) user.groups else []

-- the users of a row, and the groups that rules name of its first; all others of the row are of these, and of no others that rules name
abbrev pub row_line : Config → List ℕ → List ℕ
row_line config row =
    codes "as " ++ row ++ codes " ask:" ++ flat_map (user_text config row) config.users ++ flat_map (groups_text config row) config.users ++ codes "\n"

-- a number between two texts
abbrev pub numbered : List ℕ → ℕ → List ℕ → List ℕ
numbered before number behind = before ++ decimal number ++ behind

-- that the rule of a number decides nothing
abbrev pub nothing_text : ℕ → List ℕ
nothing_text id = numbered (codes "rule ") id (codes " decides nothing here\n")

-- whether a rule is for an operation, and decides nothing of it
abbrev pub is_unused : Operation → List ℕ → Rule → Bool
is_unused operation numbers rule = matches_operation operation rule.operation && not (list_any (λ number. number == rule.id) numbers)

-- the same of a rule, if that is so
abbrev pub unused_line : Operation → List ℕ → Rule → List ℕ
unused_line operation numbers rule = if is_unused operation numbers rule then nothing_text rule.id else []

-- ---- the whole

abbrev pub legend : List ℕ
legend =
    codes "A rule's number, 0 for none, and what comes of it: + goes to the registrar or to\n"
    ++ codes "the bindings, > goes by a hop, - is denied, ? is asked for a proof, ! is allowed\n"
    ++ codes "and reaches nobody; behind / for the asker's own address. U*@H are all that begin\n"
    ++ codes "so, but those that have a line of their own or a longer beginning.\n"

-- what the table is of
abbrev pub title : Config → Operation → List ℕ
title config operation = operation_word operation ++ codes ", offset " ++ signed config.offset ++ codes "\n"

-- the hops by which no rule sends, and the groups that none names
abbrev pub unnamed : Config → List ℕ
unnamed config = flat_map (hop_line config.hops config.rules) config.hops ++ flat_map (user_lines config.rules) config.users

-- the users of each row, and the rules for the operation, the hops and the groups that decide nothing
abbrev pub foot : Config → Operation → PolicyTable → List ℕ → List ℕ
foot config operation table numbers =
    codes "\n" ++ flat_map (row_line config) table.rows ++ flat_map (unused_line operation numbers) config.rules ++ unnamed config

abbrev pub text_of : Config → Operation → PolicyTable → List ℕ
text_of config operation table =
    title config operation ++ legend ++ flat_map (piece_lines config operation table) table.pieces
    ++ foot config operation table (numbers_of config operation table)

-- the table of a configuration for an operation, as text
abbrev pub matrix_text : Config → Operation → List ℕ
matrix_text config operation = text_of config operation (table_of config.rules config.users config.own.domains)
