-- Where no line is told, nothing changes.
use Rattle.std.proofs.Common.{◌≡◌, ℕ, ◌<◌, Bool, true, false, not, ◌&&◌, cond, nat_eq, List, [], ◌∷◌, ◌++◌, Option, Some, None, refl, sym, ap, ◌∙◌}
use Rattle.std.specs.List.{flat_map, list_any}
use Rattle.std.specs.Prelude.{codes, ◌||◌}
use Rattle.std.proofs.lemmas.Bool.{eqb-true}
use Rattle.sip_uri.specs.declared.aor.Aor.{Aor}
use Rattle.sip_policy.specs.declared.operation.Operation.{Operation}
use Rattle.sip_policy.specs.User.{is_users_name}
use Rattle.sip_config_types.specs.declared.config.Config.{Config}
use Rattle.sip_matrix.specs.declared.column.Column.{Column}
use Rattle.sip_matrix.specs.declared.table.PolicyTable.{PolicyTable}
use Rattle.sip_matrix.proofs.Firsts.{counted_there}
use Rattle.sip_matrix.proofs.Minutes.{one_piece}
use Rattle.sipd_matrix_changes.specs.Both.{are_asked_alike_by_both, ask_alike_of_both, asks_own, column_of, is_in_row}
use Rattle.sipd_matrix_changes.specs.Both.{piece_of, rules_of, table_of, users_of}
use Rattle.sipd_matrix_changes.specs.Change.{has_question, is_changed, is_changed_in, is_told}
use Rattle.sipd_matrix_changes.specs.Lines.{askers_text, cell_line, changes_text, class_lines, own_line, piece_lines, row_lines, span_text, user_lines, values_text}
use Rattle.sipd_matrix_changes.proofs.Cells.{change_of_cell, one_class, one_row, own_of_stranger, question_there}

-- ---- empty texts

-- what is empty together is empty in each part
none_in_front : {X : Type 0} (xs ys : List X) → (xs ++ ys) ≡ [] → xs ≡ []
none_in_front [] ys e = refl
none_in_front (x ∷ xs) ys e = absurd cc

none_behind : {X : Type 0} (xs ys : List X) → (xs ++ ys) ≡ [] → ys ≡ []
none_behind [] ys e = e
none_behind (x ∷ xs) ys e = absurd cc

-- what is empty of all is empty of one that is there
none_of : {X Y : Type 0} (make : X → List Y) (there : X → Bool) (goal : Type 0) → ((x : X) → there x ≡ true → make x ≡ [] → goal) → (xs : List X)
    → list_any there xs ≡ true → flat_map make xs ≡ [] → goal
none_of make there goal see [] e none = absurd cc
none_of make there goal see (x ∷ xs) e none =
    by (there x) refl e (λ f. none_of make there goal see xs f (none_behind (make x) (flat_map make xs) none))
  where
    by : (b : Bool) → there x ≡ b → (b || list_any there xs) ≡ true → (list_any there xs ≡ true → goal) → goal
    by true is e more = see x is (none_in_front (make x) (flat_map make xs) none)
    by false is e more = more e

-- whether a text has a byte
abbrev has_byte : List ℕ → Bool
has_byte [] = false
has_byte (b ∷ bs) = true

no_line : codes "\n" ≡ [] → true ≡ false
no_line e = ap has_byte e

-- ---- one cell

module _ (old new : Config) (operation : Operation) where
  abbrev table : PolicyTable
  table = table_of old new

  -- where its line is empty, it isn't told
  untold : (piece : ℕ) (class : Column) (row : Option (List ℕ)) (own : Bool) → own_line old new operation table piece class row own ≡ []
      → is_told old new operation table.columns piece class row own ≡ false
  untold piece class row own none = by (is_told old new operation table.columns piece class row own) none
    where
      by : (told : Bool) → cond told (cell_line old new operation table piece class row own) [] ≡ [] → told ≡ false
      by true e =
          no_line (none_behind (span_text table.pieces piece ++ codes " " ++ values_text old new operation row class own piece
          ++ askers_text old new table.columns class row own) (codes "\n") e)
      by false e = refl

  -- both lines of a row
  row_untold : (piece : ℕ) (class : Column) (row : Option (List ℕ)) (own : Bool) → row_lines old new operation table piece class row ≡ []
      → is_told old new operation table.columns piece class row own ≡ false
  row_untold piece class row true none =
      untold piece class row true (none_behind (own_line old new operation table piece class row false) (own_line old new operation table piece class row true) none)
  row_untold piece class row false none =
      untold piece class row false (none_in_front (own_line old new operation table piece class row false) (own_line old new operation table piece class row true) none)

  -- what isn't told doesn't change, where it has questions
  unchanged : (piece : ℕ) (class : Column) (row : Option (List ℕ)) (own : Bool) → has_question old new table.columns row class own ≡ true
      → is_told old new operation table.columns piece class row own ≡ false → is_changed_in old new operation row class own piece ≡ false
  unchanged piece class row own asked untold =
      sym (ap (λ (b : Bool). b && is_changed_in old new operation row class own piece) asked) ∙ untold

  module _ (aor : Aor) (minute : ℕ) (class : Column) (alike : are_asked_alike_by_both old new (column_of old new aor) class ≡ true)
      (none : class_lines old new operation table (piece_of old new minute) class ≡ []) where
    abbrev piece : ℕ
    piece = piece_of old new minute

    abbrev nobodys : List ℕ
    nobodys = row_lines old new operation table piece class None

    abbrev users : List ℕ
    users = flat_map (user_lines old new operation table piece class) table.rows

    -- of who is nobody, or a user of neither
    of_nobody : (proven : Option (List ℕ)) → is_in_row old new proven None ≡ true → asks_own old new proven aor ≡ false
        → is_changed old new operation proven aor minute ≡ false
    of_nobody proven in_row own =
        change_of_cell old new operation proven None aor class minute in_row alike
        ∙ ap (λ (o : Bool). is_changed_in old new operation None class o piece) own
        ∙ unchanged piece class None false refl (row_untold piece class None false (none_in_front nobodys users none))

    -- of a user
    of_user : (name : List ℕ) → is_users_name (users_of old new) name ≡ true → is_changed old new operation (Some name) aor minute ≡ false
    of_user name user =
        none_of (user_lines old new operation table piece class) (ask_alike_of_both old new name) (is_changed old new operation (Some name) aor minute ≡ false)
        (λ row in_row empty.
        change_of_cell old new operation (Some name) (Some row) aor class minute in_row alike
        ∙ unchanged piece class (Some row) (asks_own old new (Some name) aor) (question_there old new aor class alike name row user in_row)
        (row_untold piece class (Some row) (asks_own old new (Some name) aor) empty))
        table.rows (counted_there (ask_alike_of_both old new name) table.rows (one_row old new name user)) (none_behind nobodys users none)

    of_asker : (proven : Option (List ℕ)) → is_changed old new operation proven aor minute ≡ false
    of_asker None = of_nobody None refl refl
    of_asker (Some name) = by (is_users_name (users_of old new) name) refl
      where
        by : (user : Bool) → is_users_name (users_of old new) name ≡ user → is_changed old new operation (Some name) aor minute ≡ false
        by true is = of_user name is
        by false is = of_nobody (Some name) (ap not is) (own_of_stranger old new aor name is)

  pub nothing_changes : changes_text old new operation ≡ [] → (proven : Option (List ℕ)) (aor : Aor) (minute : ℕ) → minute < 1440
      → is_changed old new operation proven aor minute ≡ false
  nothing_changes none proven aor minute below =
      none_of (piece_lines old new operation table) (nat_eq (piece_of old new minute)) (is_changed old new operation proven aor minute ≡ false)
      (λ start same empty.
      none_of (class_lines old new operation table start) (are_asked_alike_by_both old new (column_of old new aor))
      (is_changed old new operation proven aor minute ≡ false)
      (λ class alike lines.
      of_asker aor minute class alike (ap (λ (n : ℕ). class_lines old new operation table n class) (eqb-true (piece_of old new minute) start same) ∙ lines) proven)
      table.classes (counted_there (are_asked_alike_by_both old new (column_of old new aor)) table.classes (one_class old new aor)) empty)
      table.pieces (counted_there (nat_eq (piece_of old new minute)) table.pieces (one_piece (rules_of old new) minute 1440 below)) none
