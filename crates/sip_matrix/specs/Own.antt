-- Where users of a row have addresses of their own in a class, and where it has addresses of others for them.
use Rattle.std.specs.Prelude.{◌≡◌, ℕ, Bool, true, false, not, ◌&&◌, List, Some}
use Rattle.std.specs.List.{list_any}
use Rattle.std.specs.Str.{bytes_eq}
use Rattle.sip_uri.specs.declared.aor.Aor.{Aor}
use Rattle.sip_policy.specs.declared.user.User.{User}
use Rattle.sip_policy.specs.declared.rule.Rule.{Rule}
use Rattle.sip_policy.specs.User.{is_users_name, is_users_address}
use Rattle.sip_matrix.specs.declared.column.Column.{Column}
use Rattle.sip_matrix.specs.declared.column.Column.TheVariants.{Named, Begins, Elsewhere}
use Rattle.sip_matrix.specs.Address.{column_of}
use Rattle.sip_matrix.specs.Asker.{ask_alike, is_own}
use Rattle.sip_matrix.specs.Column.{are_asked_alike, is_known}

-- whether a column is the address of a configured user of this name
abbrev pub is_address_of : List User → List (List ℕ) → List ℕ → Column → Bool
is_address_of users domains name (Named aor) = bytes_eq aor.user name && is_users_address users domains aor
is_address_of users domains name (Begins aor) = false
is_address_of users domains name Elsewhere = false

-- whether a class has an address of a user of this name, among these columns
abbrev pub has_address_of : List Rule → List User → List (List ℕ) → List Column → Column → List ℕ → Bool
has_address_of rules users domains columns class name =
    list_any (λ column. is_address_of users domains name column && are_asked_alike rules users domains class column) columns

-- whether some user of a row has an address in a class
abbrev pub has_address_of_row : List Rule → List User → List (List ℕ) → List Column → Column → List ℕ → Bool
has_address_of_row rules users domains columns class row =
    list_any (λ user. ask_alike rules users row user.name && has_address_of rules users domains columns class user.name) users

-- whether a user of a row may ask for his own address in a class, which is known then
abbrev pub has_own : List Rule → List User → List (List ℕ) → List Column → Column → List ℕ → Bool
has_own rules users domains columns class row = is_known users domains class && has_address_of_row rules users domains columns class row

-- a configured user asks as a row does, and an address of his own is asked about as a class is
pub record AsksForOwn (rules : List Rule) (users : List User) (domains : List (List ℕ)) (class : Column) (row : List ℕ) : Type 0 where
  pub name : List ℕ
  pub aor : Aor
  pub is_user : is_users_name users name ≡ true
  pub in_row : ask_alike rules users row name ≡ true
  pub own : is_own users domains (Some name) aor ≡ true
  pub in_class : are_asked_alike rules users domains (column_of rules users domains aor) class ≡ true

-- whether a class has an address, among these columns, that is none of a user of this name
abbrev pub has_other_than : List Rule → List User → List (List ℕ) → List Column → Column → List ℕ → Bool
has_other_than rules users domains columns class name =
    list_any (λ column. not (is_address_of users domains name column) && are_asked_alike rules users domains class column) columns

-- whether some user of a row may ask for an address in a class that isn't his own
abbrev pub has_others : List Rule → List User → List (List ℕ) → List Column → Column → List ℕ → Bool
has_others rules users domains columns class row =
    list_any (λ user. ask_alike rules users row user.name && has_other_than rules users domains columns class user.name) users

-- a configured user asks as a row does, and an address that isn't his own is asked about as a class is
pub record AsksForOther (rules : List Rule) (users : List User) (domains : List (List ℕ)) (class : Column) (row : List ℕ) : Type 0 where
  pub name : List ℕ
  pub aor : Aor
  pub is_user : is_users_name users name ≡ true
  pub in_row : ask_alike rules users row name ≡ true
  pub other : is_own users domains (Some name) aor ≡ false
  pub in_class : are_asked_alike rules users domains (column_of rules users domains aor) class ≡ true
