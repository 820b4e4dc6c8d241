-- What one of two configurations makes of a question is what it makes of the question's cell of both.
use Rattle.std.proofs.Common.{◌≡◌, ℕ, Bool, true, false, ◌&&◌, ◌||◌, cond, List, ◌++◌, Option, Some, None, is_none, refl, sym, ap, ap₂, ◌∙◌, true≢false}
use Rattle.std.specs.Bool.{beq}
use Rattle.std.specs.Cmp.Lexicographic.{same_text}
use Rattle.std.specs.List.{list_all}
use Rattle.std.specs.Str.{bytes_eq}
use Rattle.std.proofs.lemmas.Bool.{and_parts, or_left, or_right, false_from_ne_true, not-true}
use Rattle.std.proofs.lemmas.List.Folds.{list_all-append, list_any-append}
use Rattle.sip_text.specs.Words.{is_same_text}
use Rattle.sip_uri.specs.declared.aor.Aor.{Aor}
use Rattle.sip_policy.specs.declared.operation.Operation.{Operation}
use Rattle.sip_policy.specs.User.{is_named, is_own_domain, is_users_name, is_users_address}
use Rattle.sip_config_types.specs.declared.config.Config.{Config}
use Rattle.sip_matrix.specs.declared.column.Column.{Column}
use Rattle.sip_matrix.specs.Asker as Asker
use Rattle.sip_matrix.specs.Asker.{ask_alike, is_own}
use Rattle.sip_matrix.specs.Cell.{decision_in}
use Rattle.sip_matrix.specs.Column.{are_asked_alike, is_known}
use Rattle.sip_matrix.specs.Finer.{AreAmong}
use Rattle.sip_matrix.proofs.Found.{decision_of_finer, known_of_finer}
use Rattle.sipd_matrix.specs.Cells.{mark_of}
use Rattle.sipd_matrix_changes.specs.Both.{are_asked_alike_by_both, ask_alike_of, ask_alike_of_both, asks_own, column_of, domains_of, is_in_row, is_users_address_of_both}
use Rattle.sipd_matrix_changes.specs.Both.{piece_of, proven_to, rules_of, users_of}
use Rattle.sipd_matrix_changes.specs.Change.{decided, decided_in, own_to}

-- ---- two lists are among both

pub among_first : {X : Type 0} (xs ys : List X) → AreAmong xs (xs ++ ys)
among_first xs ys = record {
  every = λ test e. (and_parts (list_all test xs) (list_all test ys) (sym (list_all-append test xs ys) ∙ e)).0;
  some = λ test e. list_any-append test xs ys ∙ or_left _ _ e;
}

pub among_second : {X : Type 0} (xs ys : List X) → AreAmong ys (xs ++ ys)
among_second xs ys = record {
  every = λ test e. (and_parts (list_all test xs) (list_all test ys) (sym (list_all-append test xs ys) ∙ e)).1;
  some = λ test e. list_any-append test xs ys ∙ or_right _ _ e;
}

-- an address is a user's by both exactly where it is by all users and all own domains
pub address_of_both : (old new : Config) (aor : Aor) → is_users_address (users_of old new) (domains_of old new) aor ≡ is_users_address_of_both old new aor
address_of_both old new aor =
    ap₂ (λ (a b : Bool). a && b) (list_any-append (λ (domain : List ℕ). is_same_text domain aor.host) old.own.domains new.own.domains)
    (list_any-append (is_named aor.user) old.users new.users)

-- ---- own addresses

known_any : (known own : Bool) → known ≡ (known && (own || true))
known_any true true = refl
known_any true false = refl
known_any false own = refl

-- an address in an own domain that has a user's name is a user's
known_own : (here same user both : Bool) → (same ≡ true → user ≡ true) → ((here && user) ≡ true → both ≡ true)
    → (here && same) ≡ ((here && user) && ((both && same) || false))
known_own false same user both is wider = refl
known_own true false true true is wider = refl
known_own true false true false is wider = refl
known_own true false false both is wider = refl
known_own true true true true is wider = refl
known_own true true true false is wider = absurd (true≢false (sym (wider refl)))
known_own true true false both is wider = absurd (true≢false (sym (is refl)))

-- ---- one of two configurations

pub record IsOf (config old new : Config) : Type 0 where
  pub rules : AreAmong config.rules (rules_of old new)
  pub users : AreAmong config.users (users_of old new)
  pub domains : AreAmong config.own.domains (domains_of old new)
  pub rows : (one other : List ℕ) → ask_alike_of_both old new one other ≡ true → ask_alike_of config one other ≡ true
  pub classes : (one other : Column) → are_asked_alike_by_both old new one other ≡ true
      → are_asked_alike config.rules config.users config.own.domains one other ≡ true

pub first_of : (old new : Config) → IsOf old old new
first_of old new = record {
  rules = among_first old.rules new.rules;
  users = among_first old.users new.users;
  domains = among_first old.own.domains new.own.domains;
  rows = λ one other e. (and_parts (ask_alike_of old one other) (ask_alike_of new one other) e).0;
  classes = λ one other e. (and_parts (are_asked_alike old.rules old.users old.own.domains one other) (are_asked_alike new.rules new.users new.own.domains one other)
      e).0;
}

pub second_of : (old new : Config) → IsOf new old new
second_of old new = record {
  rules = among_second old.rules new.rules;
  users = among_second old.users new.users;
  domains = among_second old.own.domains new.own.domains;
  rows = λ one other e. (and_parts (ask_alike_of old one other) (ask_alike_of new one other) e).1;
  classes = λ one other e. (and_parts (are_asked_alike old.rules old.users old.own.domains one other) (are_asked_alike new.rules new.users new.own.domains one other)
      e).1;
}

module _ (config old new : Config) (is : IsOf config old new) where
  -- who is no user of both is none of one
  no_user : (name : List ℕ) → is_users_name (users_of old new) name ≡ false → is_users_name config.users name ≡ false
  no_user name none = false_from_ne_true (is_users_name config.users name) (λ e. true≢false (sym (is.users.some (is_named name) e) ∙ none))

  -- who asks is of a row as it is told apart by one
  row_of : (proven row : Option (List ℕ)) → is_in_row old new proven row ≡ true
      → Asker.is_in_row config.rules config.users (proven_to config proven) (proven_to config row) ≡ true
  row_of None None e = refl
  row_of None (Some row) e = absurd cc
  row_of (Some name) None e =
      ap (λ (b : Bool). Asker.is_in_row config.rules config.users (cond b (Some name) None) None)
      (no_user name (not-true (is_users_name (users_of old new) name) e))
  row_of (Some name) (Some row) e =
      let both = and_parts (beq (is_users_name config.users name) (is_users_name config.users row)) (ask_alike config.rules config.users name row) (is.rows name row e) in
      by (is_users_name config.users name) (is_users_name config.users row) both.0 both.1
    where
      by : (one other : Bool) → beq one other ≡ true → ask_alike config.rules config.users name row ≡ true
          → Asker.is_in_row config.rules config.users (cond one (Some name) None) (cond other (Some row) None) ≡ true
      by true true same alike = alike
      by true false same alike = absurd cc
      by false true same alike = absurd cc
      by false false same alike = refl

  module _ (aor : Aor) (class : Column) (alike : are_asked_alike config.rules config.users config.own.domains (column_of old new aor) class ≡ true) where
    known : is_users_address config.users config.own.domains aor ≡ is_known config.users config.own.domains class
    known = known_of_finer config.rules (rules_of old new) config.users (users_of old new) config.own.domains (domains_of old new) aor class is.users is.domains alike

    wider : is_users_address config.users config.own.domains aor ≡ true → is_users_address_of_both old new aor ≡ true
    wider e =
        let both = and_parts (is_own_domain config.own.domains aor.host) (is_users_name config.users aor.user) e in
        sym (address_of_both old new aor)
        ∙ ap₂ (λ (a b : Bool). a && b) (is.domains.some (λ (domain : List ℕ). is_same_text domain aor.host) both.0) (is.users.some (is_named aor.user) both.1)

    -- with nobody proven
    own_of_nobody : (row : Option (List ℕ)) → Asker.is_in_row config.rules config.users None row ≡ true → (own : Bool)
        → is_own config.users config.own.domains None aor ≡ (is_known config.users config.own.domains class && (own || is_none row))
    own_of_nobody None e own = known ∙ known_any (is_known config.users config.own.domains class) own
    own_of_nobody (Some row) e own = absurd cc

    -- with a user proven
    own_of_user : (name : List ℕ) → is_users_name config.users name ≡ true → (row : Option (List ℕ)) → Asker.is_in_row config.rules config.users (Some name) row ≡ true
        → is_own config.users config.own.domains (Some name) aor
        ≡ (is_known config.users config.own.domains class && (asks_own old new (Some name) aor || is_none row))
    own_of_user name user None e = absurd cc
    own_of_user name user (Some row) e =
        known_own (is_own_domain config.own.domains aor.host) (bytes_eq aor.user name) (is_users_name config.users aor.user) (is_users_address_of_both old new aor)
        (λ same. ap (is_users_name config.users) (same_text aor.user name (sym same)) ∙ user) wider
        ∙ ap (λ (b : Bool). b && (asks_own old new (Some name) aor || false)) known

    own_same : (proven row : Option (List ℕ)) → Asker.is_in_row config.rules config.users (proven_to config proven) (proven_to config row) ≡ true
        → is_own config.users config.own.domains (proven_to config proven) aor ≡ own_to config row class (asks_own old new proven aor)
    own_same None row e = own_of_nobody (proven_to config row) e false
    own_same (Some name) row e = by (is_users_name config.users name) refl e
      where
        by : (user : Bool) → is_users_name config.users name ≡ user
            → Asker.is_in_row config.rules config.users (cond user (Some name) None) (proven_to config row) ≡ true
            → is_own config.users config.own.domains (cond user (Some name) None) aor ≡ own_to config row class (asks_own old new (Some name) aor)
        by true user e = own_of_user name user (proven_to config row) e
        by false user e = own_of_nobody (proven_to config row) e (asks_own old new (Some name) aor)

  -- what it makes of a question
  pub decided_there : (operation : Operation) (proven row : Option (List ℕ)) (aor : Aor) (class : Column) (minute : ℕ) → is_in_row old new proven row ≡ true
      → are_asked_alike_by_both old new (column_of old new aor) class ≡ true
      → decided config operation proven aor minute ≡ decided_in config operation row class (asks_own old new proven aor) (piece_of old new minute)
  decided_there operation proven row aor class minute in_row both =
      let alike = is.classes (column_of old new aor) class both in
      let here = row_of proven row in_row in
      ap₂ (mark_of operation config.hops) (known aor class alike)
      (decision_of_finer config.rules (rules_of old new) config.users (users_of old new) config.own.domains (domains_of old new) (proven_to config proven)
      (proven_to config row) operation aor class minute is.rules here alike
      ∙ ap (λ (own : Bool). decision_in config.rules config.users (proven_to config row) operation class own (piece_of old new minute))
      (own_same aor class alike proven row here))
