-- Cells of two configurations together: questions of one are decided alike, and each question has one.
use Rattle.std.proofs.Common.{◌≡◌, inl, inr, ℕ, Bool, true, false, not, ◌&&◌, ◌||◌, List, Option, Some, None, count_by, refl, sym, ap, ap₂, ◌∙◌}
use Rattle.std.specs.Bool.{beq}
use Rattle.std.specs.Cmp.Lexicographic.{same_text}
use Rattle.std.specs.Str.{bytes_eq}
use Rattle.std.proofs.lemmas.Bool.{and_parts, and_from, and_left, and_right, not-true, or_cases, or_left, or_right, true≢false}
use Rattle.std.proofs.lemmas.List.Folds.{list_any-append}
use Rattle.sip_uri.specs.declared.aor.Aor.{Aor}
use Rattle.sip_policy.specs.declared.operation.Operation.{Operation}
use Rattle.sip_policy.specs.declared.user.User.{User}
use Rattle.sip_policy.specs.User.{is_named, is_own_domain, is_users_name, is_users_address}
use Rattle.sip_config_types.specs.declared.config.Config.{Config}
use Rattle.sip_matrix.specs.declared.column.Column.{Column}
use Rattle.sip_matrix.specs.declared.column.Column.TheVariants.{Named, Begins, Elsewhere}
use Rattle.sip_matrix.specs.Asker.{ask_alike, names_of}
use Rattle.sip_matrix.specs.Column.{are_asked_alike, is_same_column}
use Rattle.sip_matrix.specs.Expected.{is_asker}
use Rattle.sip_matrix.proofs.Agreement.{agree_from, agree_itself, agree_same}
use Rattle.sip_matrix.proofs.Firsts.{counted_there, exactly_one}
use Rattle.sip_matrix.proofs.Listed.{any_of_map, any_wider, ask_itself, ask_over, column_listed, text_itself}
use Rattle.sip_matrix.proofs.Meeting.{Same, alike_if_same, asked_over, own_domain_same, same_parts}
use Rattle.sip_matrix.proofs.Owned.{same_over}
use Rattle.sip_matrix.proofs.Stars.{IsOf, is_of_column}
use Rattle.sipd_matrix_changes.specs.Both.{all_columns, are_asked_alike_by_both, ask_alike_of, ask_alike_of_both, asks_own, column_of, domains_of, is_in_row}
use Rattle.sipd_matrix_changes.specs.Both.{is_users_address_of_both, piece_of, rules_of, table_of, users_of}
use Rattle.sipd_matrix_changes.specs.Change.{has_asker, has_column, has_question, is_changed, is_changed_in, is_told, owns_column}
use Rattle.sipd_matrix_changes.proofs.Sides.{address_of_both, decided_there, first_of, second_of}

pub change_of_cell : (old new : Config) (operation : Operation) (proven row : Option (List ℕ)) (aor : Aor) (class : Column) (minute : ℕ)
    → is_in_row old new proven row ≡ true → are_asked_alike_by_both old new (column_of old new aor) class ≡ true
    → is_changed old new operation proven aor minute ≡ is_changed_in old new operation row class (asks_own old new proven aor) (piece_of old new minute)
change_of_cell old new operation proven row aor class minute in_row alike =
    ap₂ (λ (one other : List ℕ). not (bytes_eq one other))
    (decided_there old old new (first_of old new) operation proven row aor class minute in_row alike)
    (decided_there new old new (second_of old new) operation proven row aor class minute in_row alike)

-- ---- rows

ask_over_one : (config : Config) (x y z : List ℕ) → ask_alike_of config x y ≡ true → ask_alike_of config x z ≡ ask_alike_of config y z
ask_over_one config x y z e =
    let both = and_parts (beq (is_users_name config.users x) (is_users_name config.users y)) (ask_alike config.rules config.users x y) e in
    ap₂ (λ (a b : Bool). beq a (is_users_name config.users z) && b) (agree_same (is_users_name config.users x) (is_users_name config.users y) both.0)
    (ask_over config.rules config.users x y z both.1)

ask_over_both : (old new : Config) (x y z : List ℕ) → ask_alike_of_both old new x y ≡ true → ask_alike_of_both old new x z ≡ ask_alike_of_both old new y z
ask_over_both old new x y z e =
    let both = and_parts (ask_alike_of old x y) (ask_alike_of new x y) e in
    ap₂ (λ (a b : Bool). a && b) (ask_over_one old x y z both.0) (ask_over_one new x y z both.1)

itself_one : (config : Config) (name : List ℕ) → ask_alike_of config name name ≡ true
itself_one config name =
    and_from _ _ (agree_itself (is_users_name config.users name)) (ask_itself config.rules config.users name name (text_itself name))

itself_both : (old new : Config) (name : List ℕ) → ask_alike_of_both old new name name ≡ true
itself_both old new name = and_from _ _ (itself_one old name) (itself_one new name)

named_alike : (old new : Config) (name other : List ℕ) → bytes_eq other name ≡ true → ask_alike_of_both old new name other ≡ true
named_alike old new name other e = ap (ask_alike_of_both old new name) (same_text other name (sym e)) ∙ itself_both old new name

ask_back : (old new : Config) (one other : List ℕ) → ask_alike_of_both old new one other ≡ true → ask_alike_of_both old new other one ≡ true
ask_back old new one other e = sym (ask_over_both old new one other one e) ∙ itself_both old new one

pub one_row : (old new : Config) (name : List ℕ) → is_users_name (users_of old new) name ≡ true
    → count_by (ask_alike_of_both old new name) (table_of old new).rows ≡ 1
one_row old new name e =
    exactly_one (ask_alike_of_both old new) (ask_over_both old new) name (names_of (users_of old new))
    (any_of_map (ask_alike_of_both old new name) (λ (u : User). u.name) (is_named name) (λ u f. named_alike old new name u.name f) (users_of old new) e)

-- ---- classes

class_over : (old new : Config) (x y z : Column) → are_asked_alike_by_both old new x y ≡ true
    → are_asked_alike_by_both old new x z ≡ are_asked_alike_by_both old new y z
class_over old new x y z e =
    let both = and_parts (are_asked_alike old.rules old.users old.own.domains x y) (are_asked_alike new.rules new.users new.own.domains x y) e in
    ap₂ (λ (a b : Bool). a && b) (asked_over old.rules old.users old.own.domains x y z both.0) (asked_over new.rules new.users new.own.domains x y z both.1)

class_if_same : (old new : Config) (one other : Column) → is_same_column one other ≡ true → are_asked_alike_by_both old new one other ≡ true
class_if_same old new one other e =
    and_from _ _ (alike_if_same old.rules old.users old.own.domains one other e) (alike_if_same new.rules new.users new.own.domains one other e)

pub one_class : (old new : Config) (aor : Aor) → count_by (are_asked_alike_by_both old new (column_of old new aor)) (table_of old new).classes ≡ 1
one_class old new aor =
    let column = column_of old new aor in
    exactly_one (are_asked_alike_by_both old new) (class_over old new) column (all_columns old new)
    (any_wider (is_same_column column) (are_asked_alike_by_both old new column) (class_if_same old new column) (all_columns old new)
    (column_listed (rules_of old new) (users_of old new) (domains_of old new) aor))

-- ---- cells with questions

own_of_same : (old new : Config) (name : List ℕ) (one other : Aor) → Same one other → asks_own old new (Some name) one ≡ asks_own old new (Some name) other
own_of_same old new name one other same =
    ap₂ (λ (a b : Bool). a && b)
    (ap₂ (λ (a b : Bool). a && b)
    (ap₂ (λ (a b : Bool). a || b) (own_domain_same one other same old.own.domains) (own_domain_same one other same new.own.domains))
    (ap (λ (user : List ℕ). is_users_name old.users user || is_users_name new.users user) same.user))
    (ap (λ (user : List ℕ). bytes_eq user name) same.user)

no_own : (old new : Config) (name : List ℕ) (aor : Aor) → is_users_address (users_of old new) (domains_of old new) aor ≡ false → asks_own old new (Some name) aor ≡ false
no_own old new name aor none = and_left _ _ (sym (address_of_both old new aor) ∙ none)

-- a column that has the address by its form is the asker's own exactly where the address is
owned_there : (old new : Config) (name : List ℕ) (aor : Aor) (one other : Column) → IsOf (users_of old new) (domains_of old new) aor one
    → is_same_column one other ≡ true → owns_column old new name other ≡ asks_own old new (Some name) aor
owned_there old new name aor (Named own) (Named other) is e =
    sym (own_of_same old new name own other (same_parts own other e)) ∙ ap (asks_own old new (Some name)) is
owned_there old new name aor (Begins front) (Begins other) is e = sym (no_own old new name aor is)
owned_there old new name aor Elsewhere Elsewhere is e = sym (no_own old new name aor is)
owned_there old new name aor (Named one) (Begins other) is e = absurd cc
owned_there old new name aor (Named one) Elsewhere is e = absurd cc
owned_there old new name aor (Begins one) (Named other) is e = absurd cc
owned_there old new name aor (Begins one) Elsewhere is e = absurd cc
owned_there old new name aor Elsewhere (Named other) is e = absurd cc
owned_there old new name aor Elsewhere (Begins other) is e = absurd cc

module _ (old new : Config) (aor : Aor) (class : Column) (alike : are_asked_alike_by_both old new (column_of old new aor) class ≡ true) where
  column_there : (name : List ℕ) → has_column old new (table_of old new).columns class (asks_own old new (Some name) aor) name ≡ true
  column_there name =
      let column = column_of old new aor in
      any_wider (is_same_column column)
      (λ (other : Column). are_asked_alike_by_both old new class other && beq (owns_column old new name other) (asks_own old new (Some name) aor))
      (λ other e. and_from _ _ (sym (class_over old new column class other alike) ∙ class_if_same old new column other e)
      (agree_from _ _ (owned_there old new name aor column other (is_of_column (rules_of old new) (users_of old new) (domains_of old new) aor) e)))
      (table_of old new).columns
      (counted_there (is_same_column column) (table_of old new).columns
      (exactly_one is_same_column same_over column (all_columns old new) (column_listed (rules_of old new) (users_of old new) (domains_of old new) aor)))

  asker_there : (name row : List ℕ) → ask_alike_of_both old new name row ≡ true → (users : List User) → is_users_name users name ≡ true
      → has_asker old new (table_of old new).columns row class (asks_own old new (Some name) aor) users ≡ true
  asker_there name row in_row users user =
      any_wider (is_named name)
      (λ (u : User). ask_alike_of_both old new row u.name && has_column old new (table_of old new).columns class (asks_own old new (Some name) aor) u.name)
      (λ u e. ap (λ (text : List ℕ). ask_alike_of_both old new row text
      && has_column old new (table_of old new).columns class (asks_own old new (Some name) aor) text) (same_text u.name name (sym e))
      ∙ and_from _ _ (ask_back old new name row in_row) (column_there name))
      users user

  pub question_there : (name row : List ℕ) → is_users_name (users_of old new) name ≡ true → ask_alike_of_both old new name row ≡ true
      → has_question old new (table_of old new).columns (Some row) class (asks_own old new (Some name) aor) ≡ true
  question_there name row user in_row =
      elim (or_cases (is_users_name old.users name) (is_users_name new.users name) (sym (list_any-append (is_named name) old.users new.users) ∙ user)) [
        | inl h ↦ or_left _ _ (asker_there name row in_row old.users h)
        | inr h ↦ or_right _ _ (asker_there name row in_row new.users h)
      ]

-- who is a user of neither has no address of his own
pub own_of_stranger : (old new : Config) (aor : Aor) (name : List ℕ) → is_users_name (users_of old new) name ≡ false → asks_own old new (Some name) aor ≡ false
own_of_stranger old new aor name none = by (bytes_eq aor.user name) refl
  where
    by : (same : Bool) → bytes_eq aor.user name ≡ same → asks_own old new (Some name) aor ≡ false
    by true same =
        and_left (is_users_address_of_both old new aor) (bytes_eq aor.user name)
        (and_right (is_own_domain old.own.domains aor.host || is_own_domain new.own.domains aor.host)
        (is_users_name old.users aor.user || is_users_name new.users aor.user)
        (ap (λ (user : List ℕ). is_users_name old.users user || is_users_name new.users user) (same_text aor.user name (sym same))
        ∙ sym (list_any-append (is_named name) old.users new.users) ∙ none))
    by false same = and_right (is_users_address_of_both old new aor) (bytes_eq aor.user name) same

-- who asks as a user of one of both is such a one
user_as : (old new : Config) (name row : List ℕ) → is_users_name (users_of old new) row ≡ true → ask_alike_of_both old new name row ≡ true
    → is_users_name (users_of old new) name ≡ true
user_as old new name row user in_row =
    let both = and_parts (ask_alike_of old name row) (ask_alike_of new name row) in_row in
    let first = and_parts (beq (is_users_name old.users name) (is_users_name old.users row)) (ask_alike old.rules old.users name row) both.0 in
    let second = and_parts (beq (is_users_name new.users name) (is_users_name new.users row)) (ask_alike new.rules new.users name row) both.1 in
    list_any-append (is_named name) old.users new.users
    ∙ ap₂ (λ (a b : Bool). a || b) (agree_same (is_users_name old.users name) (is_users_name old.users row) first.0)
    (agree_same (is_users_name new.users name) (is_users_name new.users row) second.0)
    ∙ sym (list_any-append (is_named row) old.users new.users) ∙ user

-- the cell of a question has questions
asked_there : (old new : Config) (proven row : Option (List ℕ)) (aor : Aor) (class : Column) → is_asker (users_of old new) row ≡ true
    → is_in_row old new proven row ≡ true → are_asked_alike_by_both old new (column_of old new aor) class ≡ true
    → has_question old new (table_of old new).columns row class (asks_own old new proven aor) ≡ true
asked_there old new None None aor class asker in_row alike = refl
asked_there old new None (Some row) aor class asker in_row alike = absurd (true≢false (sym in_row))
asked_there old new (Some name) None aor class asker in_row alike =
    ap not (own_of_stranger old new aor name (not-true (is_users_name (users_of old new) name) in_row))
asked_there old new (Some name) (Some row) aor class asker in_row alike =
    question_there old new aor class alike name row (user_as old new name row asker in_row) in_row

pub told_there : (old new : Config) (operation : Operation) (proven row : Option (List ℕ)) (aor : Aor) (class : Column) (minute : ℕ)
    → is_asker (users_of old new) row ≡ true → is_in_row old new proven row ≡ true → are_asked_alike_by_both old new (column_of old new aor) class ≡ true
    → is_told old new operation (table_of old new).columns (piece_of old new minute) class row (asks_own old new proven aor)
    ≡ is_changed old new operation proven aor minute
told_there old new operation proven row aor class minute asker in_row alike =
    ap (λ (b : Bool). b && is_changed_in old new operation row class (asks_own old new proven aor) (piece_of old new minute))
    (asked_there old new proven row aor class asker in_row alike)
    ∙ sym (change_of_cell old new operation proven row aor class minute in_row alike)
