-- The number of the rule that decides about a question is among those of the table.
use Rattle.std.proofs.Common.{◌≡◌, ℕ, ◌<◌, Bool, true, false, ◌==◌, cond, nat_eq, List, [], ◌∷◌, Option, Some, None, refl, sym, ap, ◌∙◌, true≢false, arith}
use Rattle.std.specs.List.{list_any, flat_map}
use Rattle.std.proofs.lemmas.Bool.{eqb-true, or_left, or_right}
use Rattle.std.proofs.lemmas.Bool.Decides.{nat_tests}
use Rattle.std.proofs.lemmas.List.Folds.{list_any-append}
use Rattle.sip_uri.specs.declared.aor.Aor.{Aor}
use Rattle.sip_policy.specs.declared.operation.Operation.{Operation}
use Rattle.sip_policy.specs.Decision.{deciding_rule}
use Rattle.sip_policy.specs.User.{is_users_name}
use Rattle.sip_config_types.specs.declared.config.Config.{Config}
use Rattle.sip_matrix.specs.declared.column.Column.{Column}
use Rattle.sip_matrix.specs.declared.table.PolicyTable.{PolicyTable}
use Rattle.sip_matrix.specs.Address.{column_of}
use Rattle.sip_matrix.specs.Asker.{ask_alike, is_in_row, is_own}
use Rattle.sip_matrix.specs.Column.{are_asked_alike}
use Rattle.sip_matrix.specs.Day.{piece_of}
use Rattle.sip_matrix.specs.Expected.{is_asker}
use Rattle.sip_matrix.specs.Table.{table_of}
use Rattle.sip_matrix.proofs.Firsts.{counted_there}
use Rattle.sip_matrix.proofs.Found.{known_of_cell, rule_of_cell}
use Rattle.sip_matrix.proofs.Listed.{any_in_all, ask_itself, ask_over, one_column, one_row, text_itself}
use Rattle.sip_matrix.proofs.Minutes.{one_piece}
use Rattle.sip_matrix.proofs.Others.{asked_has_others}
use Rattle.sip_matrix.proofs.Owned.{asked_has_own}
use Rattle.sipd_matrix.specs.Cells.{are_known, has_others, has_own, number_at, number_of, number_of_others, number_of_own}
use Rattle.sipd_matrix.specs.Cells.{numbers_of, numbers_of_class, numbers_of_piece, numbers_of_row}

abbrev finds : ℕ → List ℕ → Bool
finds number numbers = list_any (λ (n : ℕ). n == number) numbers

same_number : (n : ℕ) → (n == n) ≡ true
same_number n = grind (arith, nat_tests)

-- a number is what it is said to be
is_number : (n number : ℕ) → number ≡ n → (n == number) ≡ true
is_number n number e = ap (λ (m : ℕ). n == m) e ∙ same_number n

-- what is listed on a condition is there where that holds
one_there : (b : Bool) (n number : ℕ) → b ≡ true → number ≡ n → finds number (cond b (n ∷ []) []) ≡ true
one_there true n number e same = or_left _ _ (is_number n number same)
one_there false n number e same = absurd (true≢false (sym e))

module _ (config : Config) (operation : Operation) (aor : Aor) (minute : ℕ) where
  abbrev table : PolicyTable
  table = table_of config.rules config.users config.own.domains

  abbrev decided : Option (List ℕ) → ℕ
  decided proven = number_of (deciding_rule config.rules config.users config.own.domains proven operation aor minute)

  abbrev piece : ℕ
  piece = piece_of config.rules minute

  abbrev is_class : Column → Bool
  is_class class = are_asked_alike config.rules config.users config.own.domains (column_of config.rules config.users config.own.domains aor) class

  module _ (class : Column) (alike : is_class class ≡ true) where
    in_cell : (proven row : Option (List ℕ)) → is_in_row config.rules config.users proven row ≡ true
        → decided proven ≡ number_at config operation row class (is_own config.users config.own.domains proven aor) piece
    in_cell proven row in_row =
        ap number_of (rule_of_cell config.rules config.users config.own.domains proven row operation aor class minute in_row alike)

    -- who is nobody
    of_nobody : decided None ≡ number_at config operation None class (are_known config class) piece
    of_nobody =
        in_cell None None refl
        ∙ ap (λ (own : Bool). number_at config operation None class own piece)
        (known_of_cell config.rules config.users config.own.domains aor class alike)

    module _ (name row : List ℕ) (user : is_users_name config.users name ≡ true) (in_row : ask_alike config.rules config.users name row ≡ true) where
      row_back : ask_alike config.rules config.users row name ≡ true
      row_back = sym (ask_over config.rules config.users name row name in_row) ∙ ask_itself config.rules config.users name name (text_itself name)

      -- a user who asks for an address of his own, or for another
      by_own : (own : Bool) → is_own config.users config.own.domains (Some name) aor ≡ own
          → decided (Some name) ≡ number_at config operation (Some row) class own piece
          → finds (decided (Some name)) (numbers_of_row config operation table.columns class piece row) ≡ true
      by_own true is same =
          list_any-append (λ (n : ℕ). n == decided (Some name)) (number_of_others config operation table.columns class piece row)
          (number_of_own config operation table.columns class piece row)
          ∙ or_right (finds (decided (Some name)) (number_of_others config operation table.columns class piece row))
          (finds (decided (Some name)) (number_of_own config operation table.columns class piece row))
          (one_there (has_own config table.columns class row) (number_at config operation (Some row) class true piece) (decided (Some name))
          (asked_has_own config.rules config.users config.own.domains class row
          (record { name = name; aor = aor; is_user = user; in_row = row_back; own = is; in_class = alike })) same)
      by_own false is same =
          list_any-append (λ (n : ℕ). n == decided (Some name)) (number_of_others config operation table.columns class piece row)
          (number_of_own config operation table.columns class piece row)
          ∙ or_left (finds (decided (Some name)) (number_of_others config operation table.columns class piece row))
          (finds (decided (Some name)) (number_of_own config operation table.columns class piece row))
          (one_there (has_others config table.columns class row) (number_at config operation (Some row) class false piece) (decided (Some name))
          (asked_has_others config.rules config.users config.own.domains class row
          (record { name = name; aor = aor; is_user = user; in_row = row_back; other = is; in_class = alike })) same)

      of_row : finds (decided (Some name)) (numbers_of_row config operation table.columns class piece row) ≡ true
      of_row = by_own (is_own config.users config.own.domains (Some name) aor) refl (in_cell (Some name) (Some row) in_row)

    of_class : (proven : Option (List ℕ)) → is_asker config.users proven ≡ true
        → finds (decided proven) (numbers_of_class config operation table piece class) ≡ true
    of_class None asker =
        or_left (number_at config operation None class (are_known config class) piece == decided None)
        (finds (decided None) (flat_map (numbers_of_row config operation table.columns class piece) table.rows))
        (is_number (number_at config operation None class (are_known config class) piece) (decided None) of_nobody)
    of_class (Some name) asker =
        or_right (number_at config operation None class (are_known config class) piece == decided (Some name))
        (finds (decided (Some name)) (flat_map (numbers_of_row config operation table.columns class piece) table.rows))
        (any_in_all (λ (n : ℕ). n == decided (Some name)) (numbers_of_row config operation table.columns class piece)
        (ask_alike config.rules config.users name) (λ row in_row. of_row name row asker in_row) table.rows
        (counted_there (ask_alike config.rules config.users name) table.rows (one_row config.rules config.users name asker)))

  of_piece : (proven : Option (List ℕ)) → is_asker config.users proven ≡ true → finds (decided proven) (numbers_of_piece config operation table piece) ≡ true
  of_piece proven asker =
      any_in_all (λ (n : ℕ). n == decided proven) (numbers_of_class config operation table piece) is_class
      (λ class alike. of_class class alike proven asker) table.classes
      (counted_there is_class table.classes (one_column config.rules config.users config.own.domains aor))

  of_all : (proven : Option (List ℕ)) → is_asker config.users proven ≡ true → minute < 1440 → finds (decided proven) (numbers_of config operation table) ≡ true
  of_all proven asker below =
      any_in_all (λ (n : ℕ). n == decided proven) (numbers_of_piece config operation table) (nat_eq piece)
      (λ start same. ap (λ (n : ℕ). finds (decided proven) (numbers_of_piece config operation table n)) (sym (eqb-true piece start same)) ∙ of_piece proven asker)
      table.pieces (counted_there (nat_eq piece) table.pieces (one_piece config.rules minute 1440 below))

pub numbered_there : (config : Config) (operation : Operation) (proven : Option (List ℕ)) (aor : Aor) (minute : ℕ) → is_asker config.users proven ≡ true → minute < 1440
    → list_any (λ (number : ℕ). number == number_of (deciding_rule config.rules config.users config.own.domains proven operation aor minute))
    (numbers_of config operation (table_of config.rules config.users config.own.domains)) ≡ true
numbered_there config operation proven aor minute asker below = of_all config operation aor minute proven asker below
