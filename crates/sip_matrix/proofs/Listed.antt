-- Each address's column is among those that are listed, and each user's row among the rows.
use Rattle.std.proofs.Common.{◌≡◌, ◌⊎◌, inl, inr, ℕ, Bool, true, false, ◌&&◌, cond, nat_eq, List, [], ◌∷◌, ◌++◌, map, Some, count_by, refl, sym, ap, ◌∙◌}
use Rattle.std.specs.Cmp.Lexicographic.{same_text}
use Rattle.std.specs.List.{list_any, flat_map, starts_with}
use Rattle.std.specs.Str.{bytes_eq}
use Rattle.std.proofs.lemmas.Bool.{and_parts, and_from, or_cases, or_left, or_right}
use Rattle.std.proofs.lemmas.Cmp.{nat_list_eq_equiv}
use Rattle.std.proofs.lemmas.List.Folds.{list_any-append}
use Rattle.sip_text.specs.Words.{without_case, is_same_text}
use Rattle.sip_uri.specs.declared.aor.Aor.{Aor}
use Rattle.sip_policy.specs.declared.user.User.{User}
use Rattle.sip_policy.specs.declared.rule.Rule.{Rule}
use Rattle.sip_policy.specs.declared.target_pattern.TargetPattern.{TargetPattern}
use Rattle.sip_policy.specs.declared.target_pattern.TargetPattern.TheVariants.{Exact, Prefix, SelfTarget, Any}
use Rattle.sip_policy.specs.User.{is_named, is_own_domain, is_users_name, is_users_address}
use Rattle.sip_policy.specs.Who.{matches_who}
use Rattle.sip_matrix.specs.declared.column.Column.{Column}
use Rattle.sip_matrix.specs.declared.column.Column.TheVariants.{Named, Begins, Elsewhere}
use Rattle.sip_matrix.specs.Asker.{ask_alike, names_of, rows_of}
use Rattle.sip_matrix.specs.Column.{are_asked_alike, is_same_column}
use Rattle.sip_matrix.specs.Address.{names_host, counts, names_address, has_name, longer_front, longest_front, column_of}
use Rattle.sip_matrix.specs.Table.{named, begins, columns_of_target, columns_of_domain, all_columns, classes_of}
use Rattle.sip_matrix.proofs.Agreement.{all_agree, agree_over}
use Rattle.sip_matrix.proofs.Firsts.{exactly_one}
use Rattle.sip_matrix.proofs.Meeting.{asked_over, alike_if_same}

-- ---- lists

pub any_wider : {X : Type 0} (one other : X → Bool) → ((x : X) → one x ≡ true → other x ≡ true) → (xs : List X) → list_any one xs ≡ true → list_any other xs ≡ true
any_wider one other wider [] e = e
any_wider one other wider (x ∷ xs) e = elim (or_cases (one x) (list_any one xs) e) [
  | inl h ↦ or_left _ _ (wider x h)
  | inr h ↦ or_right _ _ (any_wider one other wider xs h)
]

pub any_of_map : {X Y : Type 0} (test : Y → Bool) (make : X → Y) (one : X → Bool) → ((x : X) → one x ≡ true → test (make x) ≡ true) → (xs : List X)
    → list_any one xs ≡ true
    → list_any test (map make xs) ≡ true
any_of_map test make one makes [] e = e
any_of_map test make one makes (x ∷ xs) e = elim (or_cases (one x) (list_any one xs) e) [
  | inl h ↦ or_left _ _ (makes x h)
  | inr h ↦ or_right _ _ (any_of_map test make one makes xs h)
]

pub any_in_all : {X Y : Type 0} (test : Y → Bool) (make : X → List Y) (one : X → Bool) → ((x : X) → one x ≡ true → list_any test (make x) ≡ true) → (xs : List X)
    → list_any one xs ≡ true → list_any test (flat_map make xs) ≡ true
any_in_all test make one makes [] e = e
any_in_all test make one makes (x ∷ xs) e = elim (or_cases (one x) (list_any one xs) e) [
  | inl h ↦ list_any-append test (make x) (flat_map make xs) ∙ or_left _ _ (makes x h)
  | inr h ↦ list_any-append test (make x) (flat_map make xs) ∙ or_right _ _ (any_in_all test make one makes xs h)
]

in_front : {X : Type 0} (test : X → Bool) (xs ys : List X) → list_any test xs ≡ true → list_any test (xs ++ ys) ≡ true
in_front test xs ys e = list_any-append test xs ys ∙ or_left _ _ e

behind : {X : Type 0} (test : X → Bool) (xs ys : List X) → list_any test ys ≡ true → list_any test (xs ++ ys) ≡ true
behind test xs ys e = list_any-append test xs ys ∙ or_right _ _ e

pub text_itself : (text : List ℕ) → bytes_eq text text ≡ true
text_itself text = nat_list_eq_equiv.refl text

-- ---- columns

module _ (rules : List Rule) (users : List User) (domains : List (List ℕ)) (aor : Aor) where
  -- what is listed for the own domains, for the rules' targets, and for all other hosts
  in_domains : (column : Column) → list_any (is_same_column column) (flat_map (columns_of_domain users) domains) ≡ true
      → list_any (is_same_column column) (all_columns rules users domains) ≡ true
  in_domains column e =
      in_front (is_same_column column) (flat_map (columns_of_domain users) domains ++ flat_map (λ (rule : Rule). columns_of_target rule.target) rules) (Elsewhere ∷ [])
      (in_front (is_same_column column) (flat_map (columns_of_domain users) domains) (flat_map (λ (rule : Rule). columns_of_target rule.target) rules) e)

  in_rules : (column : Column) → list_any (is_same_column column) (flat_map (λ (rule : Rule). columns_of_target rule.target) rules) ≡ true
      → list_any (is_same_column column) (all_columns rules users domains) ≡ true
  in_rules column e =
      in_front (is_same_column column) (flat_map (columns_of_domain users) domains ++ flat_map (λ (rule : Rule). columns_of_target rule.target) rules) (Elsewhere ∷ [])
      (behind (is_same_column column) (flat_map (columns_of_domain users) domains) (flat_map (λ (rule : Rule). columns_of_target rule.target) rules) e)

  elsewhere_listed : list_any (is_same_column Elsewhere) (all_columns rules users domains) ≡ true
  elsewhere_listed = behind (is_same_column Elsewhere) (flat_map (columns_of_domain users) domains ++ flat_map (λ (rule : Rule). columns_of_target rule.target) rules)
      (Elsewhere ∷ []) refl

  host_same : (domain : List ℕ) → is_same_text domain aor.host ≡ true → is_same_text aor.host domain ≡ true
  host_same domain e = nat_list_eq_equiv.symm (without_case aor.host) (without_case domain) ∙ e

  -- a named address
  user_in : (domain : List ℕ) → is_users_name users aor.user ≡ true → is_same_text domain aor.host ≡ true
      → list_any (is_same_column (Named aor)) (columns_of_domain users domain) ≡ true
  user_in domain user host =
      in_front (is_same_column (Named aor)) (map (λ (u : User). named u.name domain) users) (begins [] domain ∷ [])
      (any_of_map (is_same_column (Named aor)) (λ (u : User). named u.name domain) (is_named aor.user)
      (λ u e. and_from _ _ (nat_list_eq_equiv.symm aor.user u.name ∙ e) (host_same domain host)) users user)

  address_in : (target : TargetPattern) → names_address aor target ≡ true → list_any (is_same_column (Named aor)) (columns_of_target target) ≡ true
  address_in (Exact user domain) e = or_left _ _ e
  address_in (Prefix prefix domain) e = absurd cc
  address_in SelfTarget e = absurd cc
  address_in Any e = absurd cc

  named_listed : has_name rules users domains aor ≡ true → list_any (is_same_column (Named aor)) (all_columns rules users domains) ≡ true
  named_listed e = elim (or_cases (is_users_address users domains aor) (list_any (λ (rule : Rule). names_address aor rule.target) rules) e) [
    | inl h ↦
        let both = and_parts (is_own_domain domains aor.host) (is_users_name users aor.user) h in
        in_domains (Named aor) (any_in_all (is_same_column (Named aor)) (columns_of_domain users) (λ (domain : List ℕ). is_same_text domain aor.host)
        (λ domain host. user_in domain both.1 host) domains both.0)
    | inr h ↦ in_rules (Named aor) (any_in_all (is_same_column (Named aor)) (λ (rule : Rule). columns_of_target rule.target)
        (λ (rule : Rule). names_address aor rule.target) (λ rule f. address_in rule.target f) rules h)
  ]

  -- what begins with a front at the address's host
  abbrev beginning : List ℕ → Column
  beginning front = Begins (record { user = front; host = aor.host })

  front_in : (front : List ℕ) (target : TargetPattern) (others : List Column) → (front ≡ []) ⊎ (list_any (is_same_column (beginning front)) others ≡ true)
      → (longer_front aor front target ≡ []) ⊎ (list_any (is_same_column (beginning (longer_front aor front target))) (columns_of_target target ++ others) ≡ true)
  front_in front (Exact user domain) others h = further front (columns_of_target (Exact user domain)) others h
    where
      further : (front : List ℕ) (more others : List Column) → (front ≡ []) ⊎ (list_any (is_same_column (beginning front)) others ≡ true)
          → (front ≡ []) ⊎ (list_any (is_same_column (beginning front)) (more ++ others) ≡ true)
      further front more others (inl e) = inl e
      further front more others (inr e) = inr (behind (is_same_column (beginning front)) more others e)
  front_in front SelfTarget others h = h
  front_in front Any others h = h
  front_in front (Prefix prefix domain) others h =
      by ((starts_with nat_eq aor.user prefix && is_same_text aor.host domain) && starts_with nat_eq prefix front) refl h
    where
      by : (longer : Bool) → ((starts_with nat_eq aor.user prefix && is_same_text aor.host domain) && starts_with nat_eq prefix front) ≡ longer
          → (front ≡ []) ⊎ (list_any (is_same_column (beginning front)) others ≡ true)
          → (cond longer prefix front ≡ []) ⊎ (list_any (is_same_column (beginning (cond longer prefix front))) (columns_of_target (Prefix prefix domain) ++ others)
          ≡ true)
      by true e h =
          let both = and_parts (starts_with nat_eq aor.user prefix && is_same_text aor.host domain) (starts_with nat_eq prefix front) e in
          let meets = and_parts (starts_with nat_eq aor.user prefix) (is_same_text aor.host domain) both.0 in
          inr (or_left _ _ (and_from _ _ (text_itself prefix) meets.1))
      by false e (inl none) = inl none
      by false e (inr there) = inr (behind (is_same_column (beginning front)) (columns_of_target (Prefix prefix domain)) others there)

  fronts_in : (some : List Rule) → (longest_front some aor ≡ []) ⊎ (list_any (is_same_column (beginning (longest_front some aor)))
      (flat_map (λ (rule : Rule). columns_of_target rule.target) some) ≡ true)
  fronts_in [] = inl refl
  fronts_in (r ∷ rs) = front_in (longest_front rs aor) r.target (flat_map (λ (rule : Rule). columns_of_target rule.target) rs) (fronts_in rs)

  -- what begins with no prefix, at a host that counts
  none_of_domain : (domain : List ℕ) → is_same_text domain aor.host ≡ true → list_any (is_same_column (beginning [])) (columns_of_domain users domain) ≡ true
  none_of_domain domain e =
      behind (is_same_column (beginning [])) (map (λ (u : User). named u.name domain) users) (begins [] domain ∷ []) (or_left _ _ (host_same domain e))

  none_of_target : (target : TargetPattern) → names_host aor.host target ≡ true → list_any (is_same_column (beginning [])) (columns_of_target target) ≡ true
  none_of_target (Exact user domain) e = or_left _ _ e
  none_of_target (Prefix prefix domain) e = or_right _ _ (or_left _ _ e)
  none_of_target SelfTarget e = absurd cc
  none_of_target Any e = absurd cc

  none_listed : counts rules domains aor.host ≡ true → list_any (is_same_column (beginning [])) (all_columns rules users domains) ≡ true
  none_listed e = elim (or_cases (is_own_domain domains aor.host) (list_any (λ (rule : Rule). names_host aor.host rule.target) rules) e) [
    | inl h ↦ in_domains (beginning []) (any_in_all (is_same_column (beginning [])) (columns_of_domain users) (λ (domain : List ℕ). is_same_text domain aor.host)
        none_of_domain domains h)
    | inr h ↦ in_rules (beginning []) (any_in_all (is_same_column (beginning [])) (λ (rule : Rule). columns_of_target rule.target)
        (λ (rule : Rule). names_host aor.host rule.target) (λ rule f. none_of_target rule.target f) rules h)
  ]

  begin_listed : counts rules domains aor.host ≡ true → list_any (is_same_column (beginning (longest_front rules aor))) (all_columns rules users domains) ≡ true
  begin_listed e = elim (fronts_in rules) [
    | inl none ↦ ap (λ (front : List ℕ). list_any (is_same_column (beginning front)) (all_columns rules users domains)) none ∙ none_listed e
    | inr there ↦ in_rules (beginning (longest_front rules aor)) there
  ]

  pub column_listed : list_any (is_same_column (column_of rules users domains aor)) (all_columns rules users domains) ≡ true
  column_listed = by (counts rules domains aor.host) refl (has_name rules users domains aor) refl
    where
      by : (here : Bool) → counts rules domains aor.host ≡ here → (has : Bool) → has_name rules users domains aor ≡ has
          → list_any (is_same_column (cond here (cond has (Named aor) (Begins (record { user = longest_front rules aor; host = aor.host }))) Elsewhere))
          (all_columns rules users domains) ≡ true
      by true here true has = named_listed has
      by true here false has = begin_listed here
      by false here has is = elsewhere_listed

  -- an address is of exactly one class of columns
  pub one_column : count_by (are_asked_alike rules users domains (column_of rules users domains aor)) (classes_of rules users domains) ≡ 1
  one_column =
      let column = column_of rules users domains aor in
      exactly_one (are_asked_alike rules users domains) (asked_over rules users domains) column (all_columns rules users domains)
      (any_wider (is_same_column column) (are_asked_alike rules users domains column) (alike_if_same rules users domains column) (all_columns rules users domains)
      column_listed)

-- ---- rows

pub ask_over : (rules : List Rule) (users : List User) (x y z : List ℕ) → ask_alike rules users x y ≡ true → ask_alike rules users x z ≡ ask_alike rules users y z
ask_over rules users x y z e = agree_over (λ (name : List ℕ) (rule : Rule). matches_who users (Some name) rule.who) x y z rules e

-- a user asks as each of his name does
pub ask_itself : (rules : List Rule) (users : List User) (name other : List ℕ) → bytes_eq other name ≡ true → ask_alike rules users name other ≡ true
ask_itself rules users name other e =
    ap (λ (text : List ℕ). ask_alike rules users name text) (same_text other name (sym e))
    ∙ all_agree (λ (rule : Rule). matches_who users (Some name) rule.who) (λ (rule : Rule). matches_who users (Some name) rule.who) (λ r. refl) rules

-- a configured user is of exactly one row
pub one_row : (rules : List Rule) (users : List User) (name : List ℕ) → is_users_name users name ≡ true → count_by (ask_alike rules users name) (rows_of rules users) ≡ 1
one_row rules users name e =
    exactly_one (ask_alike rules users) (ask_over rules users) name (names_of users)
    (any_of_map (ask_alike rules users name) (λ (u : User). u.name) (is_named name) (λ u f. ask_itself rules users name u.name f) users e)
