-- Which target patterns an address meets, and which the addresses of its column.
use Rattle.std.proofs.Common.{◌≡◌, ℕ, Bool, true, false, ◌&&◌, ◌||◌, cond, nat_eq, List, [], ◌∷◌, Option, refl, sym, ap, ap₂, ◌∙◌, true≢false}
use Rattle.std.specs.Bool.{beq}
use Rattle.std.specs.Cmp.Lexicographic.{same_text}
use Rattle.std.specs.List.{list_all, list_any, starts_with}
use Rattle.std.specs.Str.{bytes_eq}
use Rattle.std.proofs.lemmas.Bool.{and_parts, and_from, and_left, and_right, or_parts, false_from_ne_true}
use Rattle.std.proofs.lemmas.Cmp.{nat_list_eq_equiv}
use Rattle.sip_text.specs.Words.{without_case, is_same_text}
use Rattle.sip_uri.specs.declared.aor.Aor.{Aor}
use Rattle.sip_policy.specs.declared.user.User.{User}
use Rattle.sip_policy.specs.declared.rule.Rule.{Rule}
use Rattle.sip_policy.specs.declared.target_pattern.TargetPattern.{TargetPattern}
use Rattle.sip_policy.specs.declared.target_pattern.TargetPattern.TheVariants.{Exact, Prefix, SelfTarget, Any}
use Rattle.sip_policy.specs.User.{is_own_domain, is_users_name, is_users_address}
use Rattle.sip_policy.specs.TargetPattern.{matches_target}
use Rattle.sip_matrix.specs.declared.column.Column.{Column}
use Rattle.sip_matrix.specs.declared.column.Column.TheVariants.{Named, Begins, Elsewhere}
use Rattle.sip_matrix.specs.Asker.{is_own}
use Rattle.sip_matrix.specs.Column.{meets, is_known, are_asked_alike, is_same_address, is_same_column}
use Rattle.sip_matrix.specs.Address.{names_host, counts, names_address, has_name, longest_front, column_of}
use Rattle.sip_matrix.proofs.Agreement.{agree_same, agree_from, all_agree, agree_over}
use Rattle.sip_matrix.proofs.Fronts.{front_fits, longest_fits}

-- ---- one pattern

met_named : (users : List User) (domains : List (List ℕ)) (proven : Option (List ℕ)) (aor : Aor) (target : TargetPattern)
    → matches_target users domains proven aor target ≡ meets (is_own users domains proven aor) (Named aor) target
met_named users domains proven aor (Exact user domain) = refl
met_named users domains proven aor (Prefix prefix domain) = refl
met_named users domains proven aor SelfTarget = refl
met_named users domains proven aor Any = refl

pub met_elsewhere : (users : List User) (domains : List (List ℕ)) (proven : Option (List ℕ)) (aor : Aor) (target : TargetPattern) → names_host aor.host target ≡ false
    → matches_target users domains proven aor target ≡ meets (is_own users domains proven aor) Elsewhere target
met_elsewhere users domains proven aor (Exact user domain) e = and_right _ _ e
met_elsewhere users domains proven aor (Prefix prefix domain) e = and_right _ _ e
met_elsewhere users domains proven aor SelfTarget e = refl
met_elsewhere users domains proven aor Any e = refl

met_begins : (users : List User) (domains : List (List ℕ)) (proven : Option (List ℕ)) (aor : Aor) (front : List ℕ) (target : TargetPattern)
    → names_address aor target ≡ false → front_fits aor front target ≡ true
    → matches_target users domains proven aor target ≡ meets (is_own users domains proven aor) (Begins (record { user = front; host = aor.host })) target
met_begins users domains proven aor front (Exact user domain) e f = e
met_begins users domains proven aor front (Prefix prefix domain) e f =
    agree_same (starts_with nat_eq aor.user prefix && is_same_text aor.host domain) (starts_with nat_eq front prefix && is_same_text aor.host domain) f
met_begins users domains proven aor front SelfTarget e f = refl
met_begins users domains proven aor front Any e f = refl

-- ---- the patterns of rules

module _ (users : List User) (domains : List (List ℕ)) (proven : Option (List ℕ)) (aor : Aor) where
  -- whether the address meets a rule's target exactly where the addresses of a column do
  abbrev pub met_as : Column → Rule → Bool
  met_as column rule = beq (matches_target users domains proven aor rule.target) (meets (is_own users domains proven aor) column rule.target)

  all_elsewhere : (rules : List Rule) → list_any (λ (rule : Rule). names_host aor.host rule.target) rules ≡ false → list_all (met_as Elsewhere) rules ≡ true
  all_elsewhere [] e = refl
  all_elsewhere (r ∷ rs) e =
      let both = or_parts (names_host aor.host r.target) (list_any (λ (rule : Rule). names_host aor.host rule.target) rs) e in
      and_from _ _ (agree_from _ _ (met_elsewhere users domains proven aor r.target both.0)) (all_elsewhere rs both.1)

  all_begin : (front : List ℕ) (rules : List Rule) → list_any (λ (rule : Rule). names_address aor rule.target) rules ≡ false
      → list_all (λ (rule : Rule). front_fits aor front rule.target) rules ≡ true → list_all (met_as (Begins (record { user = front; host = aor.host }))) rules ≡ true
  all_begin front [] e f = refl
  all_begin front (r ∷ rs) e f =
      let none = or_parts (names_address aor r.target) (list_any (λ (rule : Rule). names_address aor rule.target) rs) e in
      let both = and_parts (front_fits aor front r.target) (list_all (λ (rule : Rule). front_fits aor front rule.target) rs) f in
      and_from _ _ (agree_from _ _ (met_begins users domains proven aor front r.target none.0 both.0)) (all_begin front rs none.1 both.1)

  -- an address meets the rules' targets that the addresses of its column do, also where that is told by other users and own domains
  pub all_met_by : (rules : List Rule) (everybody : List User) (further : List (List ℕ)) → list_all (met_as (column_of rules everybody further aor)) rules ≡ true
  all_met_by rules everybody further = by (counts rules further aor.host) refl (has_name rules everybody further aor) refl
    where
      by : (here : Bool) → counts rules further aor.host ≡ here → (has : Bool) → has_name rules everybody further aor ≡ has
          → list_all (met_as (cond here (cond has (Named aor) (Begins (record { user = longest_front rules aor; host = aor.host }))) Elsewhere)) rules ≡ true
      by true here true has = all_agree (λ (rule : Rule). matches_target users domains proven aor rule.target)
          (λ (rule : Rule). meets (is_own users domains proven aor) (Named aor) rule.target) (λ r. met_named users domains proven aor r.target) rules
      by true here false has =
          all_begin (longest_front rules aor) rules
          (or_parts (is_users_address everybody further aor) (list_any (λ (rule : Rule). names_address aor rule.target) rules) has).1 (longest_fits rules aor).fits
      by false here has is = all_elsewhere rules (or_parts (is_own_domain further aor.host) (list_any (λ (rule : Rule). names_host aor.host rule.target) rules) here).1

  pub all_met : (rules : List Rule) → list_all (met_as (column_of rules users domains aor)) rules ≡ true
  all_met rules = all_met_by rules users domains

-- the addresses of a column are known as those of it are that is asked about, also where that is told by more users and own domains
pub known_by : (rules : List Rule) (users everybody : List User) (domains further : List (List ℕ)) (aor : Aor)
    → (is_users_address users domains aor ≡ true → is_users_address everybody further aor ≡ true)
    → is_users_address users domains aor ≡ is_known users domains (column_of rules everybody further aor)
known_by rules users everybody domains further aor wider = by (counts rules further aor.host) refl (has_name rules everybody further aor) refl
  where
    none : is_users_address everybody further aor ≡ false → is_users_address users domains aor ≡ false
    none e = false_from_ne_true (is_users_address users domains aor) (λ is. true≢false (sym (wider is) ∙ e))

    by : (here : Bool) → counts rules further aor.host ≡ here → (has : Bool) → has_name rules everybody further aor ≡ has
        → is_users_address users domains aor ≡ is_known users domains (cond here (cond has (Named aor)
        (Begins (record { user = longest_front rules aor; host = aor.host }))) Elsewhere)
    by true here true has = refl
    by true here false has = none (or_parts (is_users_address everybody further aor) (list_any (λ (rule : Rule). names_address aor rule.target) rules) has).0
    by false here has is =
        none (and_left _ _ (or_parts (is_own_domain further aor.host) (list_any (λ (rule : Rule). names_host aor.host rule.target) rules) here).0)

pub known_as : (rules : List Rule) (users : List User) (domains : List (List ℕ)) (aor : Aor)
    → is_users_address users domains aor ≡ is_known users domains (column_of rules users domains aor)
known_as rules users domains aor = known_by rules users users domains domains aor (λ is. is)

-- ---- columns that are asked about alike

-- where columns meet the targets alike of addresses that aren't the asker's own, they do of those that are
pub own_alike : (own : Bool) (one other : Column) (target : TargetPattern) → meets false one target ≡ meets false other target
    → meets own one target ≡ meets own other target
own_alike own one other (Exact user domain) e = e
own_alike own one other (Prefix prefix domain) e = e
own_alike own one other SelfTarget e = refl
own_alike own one other Any e = refl

pub asked_over : (rules : List Rule) (users : List User) (domains : List (List ℕ)) (x y z : Column) → are_asked_alike rules users domains x y ≡ true
    → are_asked_alike rules users domains x z ≡ are_asked_alike rules users domains y z
asked_over rules users domains x y z e =
    let both = and_parts (beq (is_known users domains x) (is_known users domains y)) (list_all
    (λ (rule : Rule). beq (meets false x rule.target) (meets false y rule.target)) rules) e in
    ap₂ (λ (a b : Bool). beq a (is_known users domains z) && b)
    (agree_same (is_known users domains x) (is_known users domains y) both.0)
    (agree_over (λ (column : Column) (rule : Rule). meets false column rule.target) x y z rules both.1)

-- what is the same of two addresses that are the same
pub record Same (one other : Aor) : Type 0 where
  pub user : one.user ≡ other.user
  pub host : (domain : List ℕ) → is_same_text one.host domain ≡ is_same_text other.host domain

pub same_parts : (one other : Aor) → is_same_address one other ≡ true → Same one other
same_parts one other e =
    let both = and_parts (bytes_eq one.user other.user) (is_same_text one.host other.host) e in
    record {
      user = same_text one.user other.user (sym both.0);
      host = λ domain. nat_list_eq_equiv.congr (without_case one.host) (without_case other.host) (without_case domain) both.1;
    }

pub own_domain_same : (one other : Aor) → Same one other → (domains : List (List ℕ)) → is_own_domain domains one.host ≡ is_own_domain domains other.host
own_domain_same one other same [] = refl
own_domain_same one other same (d ∷ ds) =
    ap₂ (λ (a b : Bool). a || b)
    (nat_list_eq_equiv.symm (without_case d) (without_case one.host) ∙ same.host d ∙ nat_list_eq_equiv.symm (without_case other.host) (without_case d))
    (own_domain_same one other same ds)

pub known_same : (users : List User) (domains : List (List ℕ)) (one other : Aor) → Same one other
    → is_users_address users domains one ≡ is_users_address users domains other
known_same users domains one other same = ap₂ (λ (a b : Bool). a && b) (own_domain_same one other same domains)
    (ap (λ (name : List ℕ). is_users_name users name) same.user)

named_same : (one other : Aor) → Same one other → (target : TargetPattern) → meets false (Named one) target ≡ meets false (Named other) target
named_same one other same (Exact user domain) = ap₂ (λ (a b : Bool). a && b) (ap (λ (name : List ℕ). bytes_eq name user) same.user) (same.host domain)
named_same one other same (Prefix prefix domain) = ap₂ (λ (a b : Bool). a && b) (ap (λ (name : List ℕ). starts_with nat_eq name prefix) same.user) (same.host domain)
named_same one other same SelfTarget = refl
named_same one other same Any = refl

begin_same : (one other : Aor) → Same one other → (target : TargetPattern) → meets false (Begins one) target ≡ meets false (Begins other) target
begin_same one other same (Exact user domain) = refl
begin_same one other same (Prefix prefix domain) = ap₂ (λ (a b : Bool). a && b) (ap (λ (name : List ℕ). starts_with nat_eq name prefix) same.user) (same.host domain)
begin_same one other same SelfTarget = refl
begin_same one other same Any = refl

-- a column is asked about as each one is that has the same addresses by its form
pub alike_if_same : (rules : List Rule) (users : List User) (domains : List (List ℕ)) (one other : Column) → is_same_column one other ≡ true
    → are_asked_alike rules users domains one other ≡ true
alike_if_same rules users domains (Named one) (Named other) e =
    let same = same_parts one other e in
    and_from _ _ (agree_from _ _ (known_same users domains one other same))
    (all_agree (λ (rule : Rule). meets false (Named one) rule.target) (λ (rule : Rule). meets false (Named other) rule.target) (λ r. named_same one other same r.target)
    rules)
alike_if_same rules users domains (Begins one) (Begins other) e =
    let same = same_parts one other e in
    and_from _ _ refl
    (all_agree (λ (rule : Rule). meets false (Begins one) rule.target) (λ (rule : Rule). meets false (Begins other) rule.target) (λ r. begin_same one other same r.target)
    rules)
alike_if_same rules users domains Elsewhere Elsewhere e =
    and_from _ _ refl
    (all_agree (λ (rule : Rule). meets false Elsewhere rule.target) (λ (rule : Rule). meets false Elsewhere rule.target) (λ r. refl) rules)
alike_if_same rules users domains (Named one) (Begins other) e = absurd cc
alike_if_same rules users domains (Named one) Elsewhere e = absurd cc
alike_if_same rules users domains (Begins one) (Named other) e = absurd cc
alike_if_same rules users domains (Begins one) Elsewhere e = absurd cc
alike_if_same rules users domains Elsewhere (Named other) e = absurd cc
alike_if_same rules users domains Elsewhere (Begins other) e = absurd cc
