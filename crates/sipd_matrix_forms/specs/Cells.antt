-- The cells of a table, one by one.
use Rattle.std.specs.Prelude.{ℕ, Bool, true, false, ◌&&◌, nat_eq, if◌then◌else◌, List, [], ◌∷◌, ◌++◌, Option, Some, None}
use Rattle.std.specs.Bool.{beq}
use Rattle.std.specs.List.{flat_map}
use Rattle.sip_uri.specs.declared.aor.Aor.{Aor}
use Rattle.sip_policy.specs.declared.operation.Operation.{Operation}
use Rattle.sip_config_types.specs.declared.config.Config.{Config}
use Rattle.sip_matrix.specs.declared.column.Column.{Column}
use Rattle.sip_matrix.specs.declared.table.PolicyTable.{PolicyTable}
use Rattle.sip_matrix.specs.Address.{column_of}
use Rattle.sip_matrix.specs.Asker.{is_in_row, is_own}
use Rattle.sip_matrix.specs.Column.{are_asked_alike}
use Rattle.sip_matrix.specs.Day.{piece_of}
use Rattle.sipd_matrix.specs.Cells.{has_second}

-- a cell: a piece of the day by its first minute, a class of addresses, a row of who asks; and whether it is a second one, for the asker's
-- own address alone
pub record Cell : Type 0 where
  pub piece : ℕ
  pub class : Column
  pub row : Option (List ℕ)
  pub second : Bool

abbrev pub cell_at : ℕ → Column → Option (List ℕ) → Bool → Cell
cell_at piece class row second = record { piece = piece; class = class; row = row; second = second }

-- whether a row and a class have a second cell
abbrev pub is_split : Config → Operation → List Column → ℕ → Column → Option (List ℕ) → Bool
is_split config operation columns piece class None = false
is_split config operation columns piece class (Some row) = has_second config operation columns class row piece

-- the cells of a row, in a class and a piece of the day
abbrev pub cells_of_row : Config → Operation → List Column → ℕ → Column → Option (List ℕ) → List Cell
cells_of_row config operation columns piece class row =
    cell_at piece class row false
    ∷ (if is_split config operation columns piece class row then cell_at piece class row true ∷ [] else [])

-- of all rows
abbrev pub cells_of_class : Config → Operation → PolicyTable → ℕ → Column → List Cell
cells_of_class config operation table piece class =
    cells_of_row config operation table.columns piece class None
    ++ flat_map (λ row. cells_of_row config operation table.columns piece class (Some row)) table.rows

-- of all classes
abbrev pub cells_of_piece : Config → Operation → PolicyTable → ℕ → List Cell
cells_of_piece config operation table piece = flat_map (cells_of_class config operation table piece) table.classes

-- all
abbrev pub cells_of : Config → Operation → PolicyTable → List Cell
cells_of config operation table = flat_map (cells_of_piece config operation table) table.pieces

-- whether a question is of a class of a piece of the day, and of a row
abbrev pub is_there : Config → Option (List ℕ) → Aor → ℕ → ℕ → Column → Option (List ℕ) → Bool
is_there config proven aor minute piece class row =
    (nat_eq (piece_of config.rules minute) piece
    && are_asked_alike config.rules config.users config.own.domains (column_of config.rules config.users config.own.domains aor) class)
    && is_in_row config.rules config.users proven row

-- whether it is of a cell: who asks is of its row, the address is asked about as its class, and the minute is of its piece of the day; where
-- there is a second one, that is for the asker's own address
abbrev pub is_of : Config → Operation → List Column → Option (List ℕ) → Aor → ℕ → Cell → Bool
is_of config operation columns proven aor minute cell =
    is_there config proven aor minute cell.piece cell.class cell.row
    && beq cell.second (is_split config operation columns cell.piece cell.class cell.row && is_own config.users config.own.domains proven aor)
