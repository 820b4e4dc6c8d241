-- The lines of a table are those of its cells.
use Rattle.std.proofs.Common.{◌≡◌, ℕ, Bool, true, false, List, [], ◌∷◌, ◌++◌, Option, Some, None, refl, sym, ap, ap₂, ◌∙◌, append-nil, cond}
use Rattle.std.specs.List.{flat_map}
use Rattle.std.proofs.lemmas.List.Concat.{flat_map-append}
use Rattle.sip_policy.specs.declared.operation.Operation.{Operation}
use Rattle.sip_config_types.specs.declared.config.Config.{Config}
use Rattle.sip_matrix.specs.declared.column.Column.{Column}
use Rattle.sip_matrix.specs.declared.table.PolicyTable.{PolicyTable}
use Rattle.sipd_matrix_forms.specs.Cells.{Cell, cell_at, cells_of, cells_of_class, cells_of_piece, cells_of_row, is_split}
use Rattle.sipd_matrix_forms.specs.Csv.{cell_line, class_lines, csv_of, header, line_of, piece_lines, row_lines, user_lines}

-- what is written of each part of each element is what is written of all parts
flat_in : {X Y : Type 0} (write : Y → List ℕ) (parts : X → List Y) (whole : X → List ℕ) → ((x : X) → whole x ≡ flat_map write (parts x)) → (xs : List X)
    → flat_map whole xs ≡ flat_map write (flat_map parts xs)
flat_in write parts whole same [] = refl
flat_in write parts whole same (x ∷ xs) =
    ap₂ (λ (a b : List ℕ). a ++ b) (same x) (flat_in write parts whole same xs) ∙ sym (flat_map-append write (parts x) (flat_map parts xs))

module _ (config : Config) (operation : Operation) (table : PolicyTable) where
  abbrev line : Cell → List ℕ
  line = line_of config operation table

  of_row : (piece : ℕ) (class : Column) (row : Option (List ℕ)) → row_lines config operation table piece class row
      ≡ flat_map line (cells_of_row config operation table.columns piece class row)
  of_row piece class row = by (is_split config operation table.columns piece class row)
    where
      by : (split : Bool) → (cell_line config operation table piece class row false ++ cond split (cell_line config operation table piece class row true) [])
          ≡ flat_map line (cell_at piece class row false ∷ cond split (cell_at piece class row true ∷ []) [])
      by true = ap (λ (text : List ℕ). cell_line config operation table piece class row false ++ text)
          (sym (append-nil (cell_line config operation table piece class row true)))
      by false = refl

  of_class : (piece : ℕ) (class : Column) → class_lines config operation table piece class ≡ flat_map line (cells_of_class config operation table piece class)
  of_class piece class =
      ap₂ (λ (a b : List ℕ). a ++ b) (of_row piece class None)
      (flat_in line (λ (row : List ℕ). cells_of_row config operation table.columns piece class (Some row)) (user_lines config operation table piece class)
      (λ row. of_row piece class (Some row)) table.rows)
      ∙ sym (flat_map-append line (cells_of_row config operation table.columns piece class None)
      (flat_map (λ (row : List ℕ). cells_of_row config operation table.columns piece class (Some row)) table.rows))

  of_piece : (piece : ℕ) → piece_lines config operation table piece ≡ flat_map line (cells_of_piece config operation table piece)
  of_piece piece = flat_in line (cells_of_class config operation table piece) (class_lines config operation table piece) (of_class piece) table.classes

  pub of_all : csv_of config operation table ≡ header ++ flat_map line (cells_of config operation table)
  of_all = ap (λ (text : List ℕ). header ++ text)
      (flat_in line (cells_of_piece config operation table) (piece_lines config operation table) of_piece table.pieces)
