-- Each question has exactly one cell, and the rule that decides is that of its line.
use Rattle.std.proofs.Common.{◌≡◌, ℕ, ◌+◌, ◌<◌, Bool, true, false, not, ◌&&◌, ◌==◌, cond, nat_eq, List, [], ◌∷◌, Option, Some, None, count_by, refl, sym, ap, ap₂}
use Rattle.std.proofs.Common.{◌∙◌}
use Rattle.std.proofs.Common.{arith}
use Rattle.std.specs.Bool.{beq}
use Rattle.std.specs.List.{flat_map}
use Rattle.std.proofs.lemmas.Bool.{and_parts, eqb-true, not-false, true≢false}
use Rattle.std.proofs.lemmas.List.Sums.{sum_by-cons, sum_by-append}
use Rattle.sip_uri.specs.declared.aor.Aor.{Aor}
use Rattle.sip_policy.specs.declared.operation.Operation.{Operation}
use Rattle.sip_policy.specs.Decision.{deciding_rule}
use Rattle.sip_policy.specs.User.{is_users_name}
use Rattle.sip_config_types.specs.declared.config.Config.{Config}
use Rattle.sip_matrix.specs.declared.column.Column.{Column}
use Rattle.sip_matrix.specs.declared.table.PolicyTable.{PolicyTable}
use Rattle.sip_matrix.specs.Address.{column_of}
use Rattle.sip_matrix.specs.Asker.{ask_alike, is_in_row, is_own}
use Rattle.sip_matrix.specs.Column.{are_asked_alike}
use Rattle.sip_matrix.specs.Day.{piece_of}
use Rattle.sip_matrix.specs.Expected.{is_asker}
use Rattle.sip_matrix.specs.Table.{columns_of, table_of}
use Rattle.sip_matrix.proofs.Found.{known_of_cell, rule_of_cell}
use Rattle.sip_matrix.proofs.Listed.{ask_itself, ask_over, one_column, one_row, text_itself}
use Rattle.sip_matrix.proofs.Minutes.{one_piece}
use Rattle.sip_matrix.proofs.Owned.{asked_has_own}
use Rattle.sipd_matrix.specs.Cells.{has_own, has_second, number_at, number_of}
use Rattle.sipd_matrix_forms.specs.Cells.{Cell, cell_at, cells_of, cells_of_class, cells_of_piece, cells_of_row, is_of, is_split, is_there}
use Rattle.sipd_matrix_forms.specs.Csv.{own_at}

-- ---- counts

abbrev one_if : Bool → ℕ
one_if b = cond b 1 0

-- what is counted in parts, each of which has one or none
count_in : {X Y : Type 0} (test : Y → Bool) (one : X → Bool) (parts : X → List Y) → ((x : X) → count_by test (parts x) ≡ one_if (one x)) → (xs : List X)
    → count_by test (flat_map parts xs) ≡ count_by one xs
count_in test one parts each [] = refl
count_in test one parts each (x ∷ xs) =
    sum_by-append (λ y. cond (test y) 1 0) (parts x) (flat_map parts xs)
    ∙ ap₂ (λ (a b : ℕ). a + b) (each x) (count_in test one parts each xs)
    ∙ sym (sum_by-cons (λ y. cond (one y) 1 0) x xs)

count_none : {X : Type 0} (xs : List X) → count_by (λ (x : X). false) xs ≡ 0
count_none [] = refl
count_none (x ∷ xs) = sum_by-cons (λ y. cond false 1 0) x xs ∙ ap (λ (n : ℕ). 0 + n) (count_none xs)

-- what is counted under a further test
count_under : {X : Type 0} (test : X → Bool) (b : Bool) (xs : List X) → count_by test xs ≡ 1 → count_by (λ (x : X). b && test x) xs ≡ one_if b
count_under test true xs e = e
count_under test false xs e = count_none xs

none_under : {X : Type 0} (b : Bool) (xs : List X) → count_by (λ (x : X). b && false) xs ≡ 0
none_under true xs = count_none xs
none_under false xs = count_none xs

both_counted : (a b : ℕ) (m n : ℕ) → a ≡ m → b ≡ n → a + b ≡ m + n
both_counted a b m n e f = ap₂ (λ (x y : ℕ). x + y) e f

plus_none : (n : ℕ) → n + 0 ≡ n
plus_none n = omega arith

none_plus : (n : ℕ) → 0 + n ≡ n
none_plus n = omega arith

-- of a cell and a second one there is one that is the question's
one_of_two : (there split own : Bool) → one_if (there && beq false (split && own)) + cond split (one_if (there && beq true (split && own)) + 0) 0 ≡ one_if there
one_of_two true true true = refl
one_of_two true true false = refl
one_of_two true false own = refl
one_of_two false true own = refl
one_of_two false false own = refl

and_no : (b : Bool) → one_if (b && false) ≡ 0
and_no true = refl
and_no false = refl

and_yes : (b : Bool) → one_if (b && true) ≡ one_if b
and_yes true = refl
and_yes false = refl

module _ (config : Config) (operation : Operation) (proven : Option (List ℕ)) (aor : Aor) (minute : ℕ) where
  abbrev table : PolicyTable
  table = table_of config.rules config.users config.own.domains

  abbrev test : Cell → Bool
  test = is_of config operation table.columns proven aor minute

  abbrev here : ℕ → Column → Bool
  here piece class =
      nat_eq (piece_of config.rules minute) piece
      && are_asked_alike config.rules config.users config.own.domains (column_of config.rules config.users config.own.domains aor) class

  abbrev own : Bool
  own = is_own config.users config.own.domains proven aor

  of_row : (piece : ℕ) (class : Column) (row : Option (List ℕ)) → count_by test (cells_of_row config operation table.columns piece class row)
      ≡ one_if (here piece class && is_in_row config.rules config.users proven row)
  of_row piece class row =
      sum_by-cons (λ (cell : Cell). cond (test cell) 1 0) (cell_at piece class row false)
      (cond (is_split config operation table.columns piece class row) (cell_at piece class row true ∷ []) [])
      ∙ ap (λ (n : ℕ). one_if (test (cell_at piece class row false)) + n) (by (is_split config operation table.columns piece class row))
      ∙ one_of_two (here piece class && is_in_row config.rules config.users proven row) (is_split config operation table.columns piece class row) own
    where
      by : (b : Bool) → count_by test (cond b (cell_at piece class row true ∷ []) []) ≡ cond b (one_if (test (cell_at piece class row true)) + 0) 0
      by true = sum_by-cons (λ (cell : Cell). cond (test cell) 1 0) (cell_at piece class row true) []
      by false = refl

  abbrev of_users : ℕ → Column → List ℕ → List Cell
  of_users piece class row = cells_of_row config operation table.columns piece class (Some row)

  -- the rows of users, of which one is a user's, and none is nobody's
  of_rows : (piece : ℕ) (class : Column) → count_by test (flat_map (of_users piece class) table.rows)
      ≡ count_by (λ (row : List ℕ). here piece class && is_in_row config.rules config.users proven (Some row)) table.rows
  of_rows piece class =
      count_in test (λ (row : List ℕ). here piece class && is_in_row config.rules config.users proven (Some row)) (of_users piece class)
      (λ row. of_row piece class (Some row)) table.rows

  all_rows : (piece : ℕ) (class : Column) → is_asker config.users proven ≡ true
      → one_if (here piece class && is_in_row config.rules config.users proven None)
      + count_by (λ (row : List ℕ). here piece class && is_in_row config.rules config.users proven (Some row)) table.rows
      ≡ one_if (here piece class)
  all_rows piece class asker = by proven asker
    where
      by : (who : Option (List ℕ)) → is_asker config.users who ≡ true
          → one_if (here piece class && is_in_row config.rules config.users who None)
          + count_by (λ (row : List ℕ). here piece class && is_in_row config.rules config.users who (Some row)) table.rows
          ≡ one_if (here piece class)
      by None e =
          both_counted _ _ (one_if (here piece class)) 0 (and_yes (here piece class)) (none_under (here piece class) table.rows) ∙ plus_none (one_if (here piece class))
      by (Some name) e =
          both_counted _ _ 0 (one_if (here piece class)) (and_no (here piece class))
          (count_under (ask_alike config.rules config.users name) (here piece class) table.rows (one_row config.rules config.users name e))
          ∙ none_plus (one_if (here piece class))

  of_class : (piece : ℕ) → is_asker config.users proven ≡ true → (class : Column)
      → count_by test (cells_of_class config operation table piece class) ≡ one_if (here piece class)
  of_class piece asker class =
      sum_by-append (λ (cell : Cell). cond (test cell) 1 0) (cells_of_row config operation table.columns piece class None) (flat_map (of_users piece class) table.rows)
      ∙ both_counted _ _ _ _ (of_row piece class None) (of_rows piece class)
      ∙ all_rows piece class asker

  of_piece : is_asker config.users proven ≡ true → (piece : ℕ)
      → count_by test (cells_of_piece config operation table piece) ≡ one_if (nat_eq (piece_of config.rules minute) piece)
  of_piece asker piece =
      count_in test (here piece) (cells_of_class config operation table piece) (of_class piece asker) table.classes
      ∙ count_under (are_asked_alike config.rules config.users config.own.domains (column_of config.rules config.users config.own.domains aor))
      (nat_eq (piece_of config.rules minute) piece) table.classes (one_column config.rules config.users config.own.domains aor)

  pub one_cell : is_asker config.users proven ≡ true → minute < 1440 → count_by test (cells_of config operation table) ≡ 1
  one_cell asker below =
      count_in test (nat_eq (piece_of config.rules minute)) (cells_of_piece config operation table) (of_piece asker) table.pieces
      ∙ one_piece config.rules minute 1440 below

-- ---- the line of a cell

same_number : (m n : ℕ) → not (m == n) ≡ false → n ≡ m
same_number m n e = sym (eqb-true m n (not-false (m == n) e))

module _ (config : Config) (operation : Operation) (name row : List ℕ) (aor : Aor) (piece : ℕ) (class : Column)
    (user : is_users_name config.users name ≡ true)
    (in_row : ask_alike config.rules config.users name row ≡ true)
    (alike : are_asked_alike config.rules config.users config.own.domains (column_of config.rules config.users config.own.domains aor) class ≡ true) where
  abbrev columns : List Column
  columns = columns_of config.rules config.users config.own.domains

  abbrev number : Bool → ℕ
  number own = number_at config operation (Some row) class own piece

  abbrev asks_own : Bool
  asks_own = is_own config.users config.own.domains (Some name) aor

  row_back : ask_alike config.rules config.users row name ≡ true
  row_back = sym (ask_over config.rules config.users name row name in_row) ∙ ask_itself config.rules config.users name name (text_itself name)

  -- what a cell without a second one says of others' addresses it says of own ones, where such a one is asked for
  unsplit : asks_own ≡ true → has_second config operation columns class row piece ≡ false → number true ≡ number false
  unsplit is none =
      let have : has_own config columns class row ≡ true =
      asked_has_own config.rules config.users config.own.domains class row
      (record { name = name; aor = aor; is_user = user; in_row = row_back; own = is; in_class = alike }) in
      same_number (number false) (number true) (sym (ap (λ (b : Bool). b && not (number false == number true)) have) ∙ none)

  by_second : (split is second : Bool) → has_second config operation columns class row piece ≡ split → asks_own ≡ is → beq second (split && is) ≡ true
      → number is ≡ number second
  by_second split true true s i e = refl
  by_second split false false s i e = refl
  by_second true true false s i e = absurd cc
  by_second true false true s i e = absurd cc
  by_second false true false s i e = unsplit i s
  by_second false false true s i e = absurd cc

module _ (config : Config) (operation : Operation) (aor : Aor) (minute piece : ℕ) (class : Column) (second : Bool) where
  abbrev decided : Option (List ℕ) → ℕ
  decided proven = number_of (deciding_rule config.rules config.users config.own.domains proven operation aor minute)

  in_cell : (proven row : Option (List ℕ)) → is_there config proven aor minute piece class row ≡ true
      → decided proven ≡ number_at config operation row class (is_own config.users config.own.domains proven aor) piece
  in_cell proven row e =
      let both = and_parts (nat_eq (piece_of config.rules minute) piece
      && are_asked_alike config.rules config.users config.own.domains (column_of config.rules config.users config.own.domains aor) class)
      (is_in_row config.rules config.users proven row) e in
      let here = and_parts (nat_eq (piece_of config.rules minute) piece)
      (are_asked_alike config.rules config.users config.own.domains (column_of config.rules config.users config.own.domains aor) class) both.0 in
      ap number_of (rule_of_cell config.rules config.users config.own.domains proven row operation aor class minute both.1 here.1)
      ∙ ap (λ (n : ℕ). number_at config operation row class (is_own config.users config.own.domains proven aor) n)
      (eqb-true (piece_of config.rules minute) piece here.0)

  alike_of : (proven row : Option (List ℕ)) → is_there config proven aor minute piece class row ≡ true
      → are_asked_alike config.rules config.users config.own.domains (column_of config.rules config.users config.own.domains aor) class ≡ true
  alike_of proven row e =
      (and_parts (nat_eq (piece_of config.rules minute) piece)
      (are_asked_alike config.rules config.users config.own.domains (column_of config.rules config.users config.own.domains aor) class)
      (and_parts (nat_eq (piece_of config.rules minute) piece
      && are_asked_alike config.rules config.users config.own.domains (column_of config.rules config.users config.own.domains aor) class)
      (is_in_row config.rules config.users proven row) e).0).1

  row_of : (proven row : Option (List ℕ)) → is_there config proven aor minute piece class row ≡ true → is_in_row config.rules config.users proven row ≡ true
  row_of proven row e =
      (and_parts (nat_eq (piece_of config.rules minute) piece
      && are_asked_alike config.rules config.users config.own.domains (column_of config.rules config.users config.own.domains aor) class)
      (is_in_row config.rules config.users proven row) e).1

  by_row : (proven row : Option (List ℕ)) → is_asker config.users proven ≡ true → is_there config proven aor minute piece class row ≡ true
      → beq second (is_split config operation (columns_of config.rules config.users config.own.domains) piece class row
      && is_own config.users config.own.domains proven aor) ≡ true
      → decided proven ≡ number_at config operation row class (own_at config class row second) piece
  by_row None None asker there e =
      in_cell None None there
      ∙ ap (λ (own : Bool). number_at config operation None class own piece)
      (known_of_cell config.rules config.users config.own.domains aor class (alike_of None None there))
  by_row None (Some row) asker there e = absurd (true≢false (sym (row_of None (Some row) there)))
  by_row (Some name) None asker there e = absurd (true≢false (sym (row_of (Some name) None there)))
  by_row (Some name) (Some row) asker there e =
      in_cell (Some name) (Some row) there
      ∙ by_second config operation name row aor piece class asker (row_of (Some name) (Some row) there) (alike_of (Some name) (Some row) there)
      (has_second config operation (columns_of config.rules config.users config.own.domains) class row piece)
      (is_own config.users config.own.domains (Some name) aor) second refl refl e

pub line_decides : (config : Config) (operation : Operation) (proven : Option (List ℕ)) (aor : Aor) (minute : ℕ) (cell : Cell) → is_asker config.users proven ≡ true
    → is_of config operation (columns_of config.rules config.users config.own.domains) proven aor minute cell ≡ true
    → number_of (deciding_rule config.rules config.users config.own.domains proven operation aor minute)
    ≡ number_at config operation cell.row cell.class (own_at config cell.class cell.row cell.second) cell.piece
line_decides config operation proven aor minute cell asker e =
    let both = and_parts (is_there config proven aor minute cell.piece cell.class cell.row)
    (beq cell.second (is_split config operation (columns_of config.rules config.users config.own.domains) cell.piece cell.class cell.row
    && is_own config.users config.own.domains proven aor)) e in
    by_row config operation aor minute cell.piece cell.class cell.second proven cell.row asker both.0 both.1
