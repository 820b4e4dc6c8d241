-- A user of a row asks for an address of his own in a class exactly where one is listed there.
use Rattle.std.proofs.Common.{◌≡◌, inl, inr, ℕ, Bool, true, false, ◌&&◌, if◌then◌else◌, List, [], ◌∷◌, refl, sym, ap, ap₂, ◌∙◌}
use Rattle.std.specs.Cmp.Lexicographic.{same_text}
use Rattle.std.specs.List.{list_any}
use Rattle.std.specs.Str.{bytes_eq}
use Rattle.std.proofs.lemmas.Bool.{and_parts, and_from, or_cases, or_left}
use Rattle.std.proofs.lemmas.Cmp.{nat_list_eq_equiv}
use Rattle.sip_text.specs.Words.{is_same_text, without_case}
use Rattle.sip_uri.specs.declared.aor.Aor.{Aor}
use Rattle.sip_policy.specs.declared.user.User.{User}
use Rattle.sip_policy.specs.declared.rule.Rule.{Rule}
use Rattle.sip_policy.specs.User.{is_named, is_own_domain, is_users_name, is_users_address}
use Rattle.sip_matrix.specs.declared.column.Column.{Column}
use Rattle.sip_matrix.specs.declared.column.Column.TheVariants.{Named, Begins, Elsewhere}
use Rattle.sip_matrix.specs.Address.{names_host, counts, names_address, has_name, longest_front, column_of}
use Rattle.sip_matrix.specs.Asker.{ask_alike}
use Rattle.sip_matrix.specs.Column.{meets, is_known, are_asked_alike, is_same_address, is_same_column}
use Rattle.sip_matrix.specs.Own.{is_address_of, has_address_of, has_address_of_row, has_own, AsksForOwn}
use Rattle.sip_matrix.specs.Table.{all_columns, columns_of}
use Rattle.sip_matrix.proofs.Agreement.{agree_itself, all_agree}
use Rattle.sip_matrix.proofs.Firsts.{counted_there, exactly_one}
use Rattle.sip_matrix.proofs.Found.{known_of_cell, own_is_known}
use Rattle.sip_matrix.proofs.Listed.{any_wider, column_listed, text_itself}
use Rattle.sip_matrix.proofs.Meeting.{alike_if_same, asked_over, known_same, same_parts}

-- what is said of each element that passes a test, where one does
pub some_of : {X : Type 0} (test : X → Bool) (goal : Type 0) → ((x : X) → test x ≡ true → goal) → (xs : List X) → list_any test xs ≡ true → goal
some_of test goal see [] e = absurd cc
some_of test goal see (x ∷ xs) e = elim (or_cases (test x) (list_any test xs) e) [
  | inl h ↦ see x h
  | inr h ↦ some_of test goal see xs h
]

-- ---- columns

address_over : (x y z : Aor) → is_same_address x y ≡ true → is_same_address x z ≡ is_same_address y z
address_over x y z e =
    let both = and_parts (bytes_eq x.user y.user) (is_same_text x.host y.host) e in
    ap₂ (λ (a b : Bool). a && b) (nat_list_eq_equiv.congr x.user y.user z.user both.0)
    (nat_list_eq_equiv.congr (without_case x.host) (without_case y.host) (without_case z.host) both.1)

pub same_over : (x y z : Column) → is_same_column x y ≡ true → is_same_column x z ≡ is_same_column y z
same_over (Named x) (Named y) (Named z) e = address_over x y z e
same_over (Named x) (Named y) (Begins z) e = refl
same_over (Named x) (Named y) Elsewhere e = refl
same_over (Begins x) (Begins y) (Named z) e = refl
same_over (Begins x) (Begins y) (Begins z) e = address_over x y z e
same_over (Begins x) (Begins y) Elsewhere e = refl
same_over Elsewhere Elsewhere z e = refl
same_over (Named x) (Begins y) z e = absurd cc
same_over (Named x) Elsewhere z e = absurd cc
same_over (Begins x) (Named y) z e = absurd cc
same_over (Begins x) Elsewhere z e = absurd cc
same_over Elsewhere (Named y) z e = absurd cc
same_over Elsewhere (Begins y) z e = absurd cc

module _ (rules : List Rule) (users : List User) (domains : List (List ℕ)) where
  pub alike_itself : (column : Column) → are_asked_alike rules users domains column column ≡ true
  alike_itself column =
      and_from _ _ (agree_itself (is_known users domains column))
      (all_agree (λ (rule : Rule). meets false column rule.target) (λ (rule : Rule). meets false column rule.target) (λ r. refl) rules)

  pub alike_back : (one other : Column) → are_asked_alike rules users domains one other ≡ true → are_asked_alike rules users domains other one ≡ true
  alike_back one other e = sym (asked_over rules users domains one other one e) ∙ alike_itself one

  -- a user's address is its own column
  pub named_column : (aor : Aor) → is_users_address users domains aor ≡ true → column_of rules users domains aor ≡ Named aor
  named_column aor e =
      let own = and_parts (is_own_domain domains aor.host) (is_users_name users aor.user) e in
      let here : counts rules domains aor.host ≡ true = or_left (is_own_domain domains aor.host) (list_any (λ (rule : Rule). names_host aor.host rule.target) rules) own.0
      in
      let has : has_name rules users domains aor ≡ true = or_left (is_users_address users domains aor) (list_any (λ (rule : Rule). names_address aor rule.target) rules) e
      in
      ap₂ (λ (x y : Bool). if x then (if y then Named aor else Begins (record { user = longest_front rules aor; host = aor.host })) else Elsewhere) here has

  -- it is listed once
  pub address_listed : (aor : Aor) → is_users_address users domains aor ≡ true → list_any (is_same_column (Named aor)) (columns_of rules users domains) ≡ true
  address_listed aor e =
      counted_there (is_same_column (Named aor)) (columns_of rules users domains)
      (exactly_one is_same_column same_over (Named aor) (all_columns rules users domains)
      (ap (λ (column : Column). list_any (is_same_column column) (all_columns rules users domains)) (sym (named_column aor e)) ∙ column_listed rules users domains aor))

  module _ (class : Column) (row : List ℕ) where
    -- the address that is listed is the user's, and of the class
    listed_there : (name : List ℕ) (aor : Aor) → bytes_eq aor.user name ≡ true → is_users_address users domains aor ≡ true
        → are_asked_alike rules users domains (Named aor) class ≡ true
        → (column : Column) → is_same_column (Named aor) column ≡ true → (is_address_of users domains name column && are_asked_alike rules users domains class column)
        ≡ true
    listed_there name aor user known alike (Named other) e =
        let same = same_parts aor other e in
        and_from _ _
        (and_from _ _ (ap (λ (text : List ℕ). bytes_eq text name) (sym same.user) ∙ user) (sym (known_same users domains aor other same) ∙ known))
        (sym (asked_over rules users domains (Named aor) class (Named other) alike) ∙ alike_if_same rules users domains (Named aor) (Named other) e)
    listed_there name aor user known alike (Begins other) e = absurd cc
    listed_there name aor user known alike Elsewhere e = absurd cc

    pub asked_has_own : AsksForOwn rules users domains class row → has_own rules users domains (columns_of rules users domains) class row ≡ true
    asked_has_own h =
        let known : is_users_address users domains h.aor ≡ true = own_is_known users domains h.name h.aor h.is_user h.own in
        let alike : are_asked_alike rules users domains (Named h.aor) class ≡ true =
        ap (λ (column : Column). are_asked_alike rules users domains column class) (sym (named_column h.aor known)) ∙ h.in_class in
        let there : has_address_of rules users domains (columns_of rules users domains) class h.name ≡ true =
        any_wider (is_same_column (Named h.aor)) (λ (column : Column). is_address_of users domains h.name column && are_asked_alike rules users domains class column)
        (listed_there h.name h.aor (and_parts (is_own_domain domains h.aor.host) (bytes_eq h.aor.user h.name) h.own).1 known alike)
        (columns_of rules users domains) (address_listed h.aor known) in
        and_from _ _ (sym (known_of_cell rules users domains h.aor class h.in_class) ∙ known)
        (any_wider (is_named h.name) (λ (user : User). ask_alike rules users row user.name
        && has_address_of rules users domains (columns_of rules users domains) class user.name)
        (λ user e. ap (λ (text : List ℕ). ask_alike rules users row text && has_address_of rules users domains (columns_of rules users domains) class text)
        (same_text user.name h.name (sym e))
        ∙ and_from _ _ h.in_row there)
        users h.is_user)

    own_of : (name : List ℕ) → ask_alike rules users row name ≡ true → (column : Column) → is_address_of users domains name column ≡ true
        → are_asked_alike rules users domains class column ≡ true → AsksForOwn rules users domains class row
    own_of name in_row (Named aor) e alike =
        let both = and_parts (bytes_eq aor.user name) (is_users_address users domains aor) e in
        let own = and_parts (is_own_domain domains aor.host) (is_users_name users aor.user) both.1 in record {
          name = aor.user;
          aor = aor;
          is_user = own.1;
          in_row = ap (ask_alike rules users row) (same_text aor.user name (sym both.0)) ∙ in_row;
          own = and_from _ _ own.0 (text_itself aor.user);
          in_class = ap (λ (column : Column). are_asked_alike rules users domains column class) (named_column aor both.1) ∙ alike_back class (Named aor) alike;
        }
    own_of name in_row (Begins aor) e alike = absurd cc
    own_of name in_row Elsewhere e alike = absurd cc

    pub own_is_asked : has_own rules users domains (columns_of rules users domains) class row ≡ true → AsksForOwn rules users domains class row
    own_is_asked e =
        some_of (λ (user : User). ask_alike rules users row user.name && has_address_of rules users domains (columns_of rules users domains) class user.name)
        (AsksForOwn rules users domains class row)
        (λ user h.
        let both = and_parts (ask_alike rules users row user.name) (has_address_of rules users domains (columns_of rules users domains) class user.name) h in
        some_of (λ (column : Column). is_address_of users domains user.name column && are_asked_alike rules users domains class column)
        (AsksForOwn rules users domains class row)
        (λ column g.
        let parts = and_parts (is_address_of users domains user.name column) (are_asked_alike rules users domains class column) g in
        own_of user.name both.0 column parts.0 parts.1)
        (columns_of rules users domains) both.1)
        users (and_parts (is_known users domains class) (has_address_of_row rules users domains (columns_of rules users domains) class row) e).1
