-- Examples of columns: a text that ends in `*` is none without one.
use Rattle.std.proofs.Common.{◌≡◌, ℕ, Bool, true, false, not, ◌&&◌, ◌||◌, ◌==◌, cond, nat_eq, List, [], ◌∷◌, ◌++◌, Option, Some, None, refl, sym, ap, ap₂, ◌∙◌}
use Rattle.std.proofs.Common.{true≢false}
use Rattle.std.specs.Cmp.Lexicographic.{same_text}
use Rattle.std.specs.List.{list_any, starts_with}
use Rattle.std.specs.Str.{byte, bytes_eq}
use Rattle.std.proofs.lemmas.Bool.{and_left, and_right, or_parts, or_right, false_from_ne_true}
use Rattle.std.proofs.lemmas.Cmp.{nat_list_eq_equiv}
use Rattle.sip_text.specs.Words.{is_same_text}
use Rattle.sip_uri.specs.declared.aor.Aor.{Aor}
use Rattle.sip_policy.specs.declared.user.User.{User}
use Rattle.sip_policy.specs.declared.rule.Rule.{Rule}
use Rattle.sip_policy.specs.declared.target_pattern.TargetPattern.{TargetPattern}
use Rattle.sip_policy.specs.declared.target_pattern.TargetPattern.TheVariants.{Exact, Prefix, SelfTarget, Any}
use Rattle.sip_policy.specs.User.{is_own_domain, is_users_name, is_users_address}
use Rattle.sip_policy.specs.TargetPattern.{matches_target, is_own_name}
use Rattle.sip_matrix.specs.declared.column.Column.{Column}
use Rattle.sip_matrix.specs.declared.column.Column.TheVariants.{Named, Begins, Elsewhere}
use Rattle.sip_matrix.specs.Address.{names_host, counts, names_address, has_name, longest_front, column_of}
use Rattle.sip_matrix.specs.Asker.{is_own}
use Rattle.sip_matrix.specs.Column.{meets, is_known, is_same_column}
use Rattle.sip_matrix.specs.Example.{example_of, has_star, is_plain_target, other_host}
use Rattle.sip_matrix.specs.Expected.{is_asker}
use Rattle.sip_matrix.proofs.Found.{own_is_known}
use Rattle.sip_matrix.proofs.Meeting.{met_elsewhere, own_domain_same, same_parts}

-- ---- texts

pub false_of_not : (b : Bool) → not b ≡ true → b ≡ false
false_of_not true e = absurd cc
false_of_not false e = refl

starred : (text : List ℕ) → has_star (text ++ byte "*" ∷ []) ≡ true
starred [] = refl
starred (b ∷ bs) = or_right (b == byte "*") (has_star (bs ++ byte "*" ∷ [])) (starred bs)

apart : (one other : List ℕ) → has_star one ≡ true → has_star other ≡ false → bytes_eq one other ≡ false
apart one other h e = false_from_ne_true (bytes_eq one other) (λ s. true≢false (sym h ∙ ap has_star (same_text one other (sym s)) ∙ e))

apart_back : (one other : List ℕ) → has_star one ≡ true → has_star other ≡ false → bytes_eq other one ≡ false
apart_back one other h e = nat_list_eq_equiv.symm other one ∙ apart one other h e

-- what begins with a text without `*` does so without a `*` at its end
front_same : (text front : List ℕ) → has_star front ≡ false → starts_with nat_eq (text ++ byte "*" ∷ []) front ≡ starts_with nat_eq text front
front_same text [] e = refl
front_same [] (f ∷ fs) e = and_left (nat_eq f (byte "*")) (starts_with nat_eq [] fs) (or_parts (nat_eq f (byte "*")) (has_star fs) e).0
front_same (t ∷ ts) (f ∷ fs) e = ap (λ (b : Bool). nat_eq f t && b) (front_same ts fs (or_parts (nat_eq f (byte "*")) (has_star fs) e).1)

-- ---- examples

-- an example meets a target as the addresses of its column do
pub met_example : (users : List User) (domains : List (List ℕ)) (proven : Option (List ℕ)) (column : Column) (target : TargetPattern)
    → names_host other_host target ≡ false → is_plain_target target ≡ true
    → matches_target users domains proven (example_of column) target ≡ meets (is_own users domains proven (example_of column)) column target
met_example users domains proven (Named aor) (Exact user domain) e p = refl
met_example users domains proven (Named aor) (Prefix prefix domain) e p = refl
met_example users domains proven (Named aor) SelfTarget e p = refl
met_example users domains proven (Named aor) Any e p = refl
met_example users domains proven (Begins aor) (Exact user domain) e p =
    and_left _ _ (apart (aor.user ++ byte "*" ∷ []) user (starred aor.user) (false_of_not (has_star user) p))
met_example users domains proven (Begins aor) (Prefix prefix domain) e p =
    ap (λ (b : Bool). b && is_same_text aor.host domain) (front_same aor.user prefix (false_of_not (has_star prefix) p))
met_example users domains proven (Begins aor) SelfTarget e p = refl
met_example users domains proven (Begins aor) Any e p = refl
met_example users domains proven Elsewhere target e p = met_elsewhere users domains proven (example_of Elsewhere) target e

no_user : (users : List User) (text : List ℕ) → list_any (λ (user : User). has_star user.name) users ≡ false → is_users_name users (text ++ byte "*" ∷ []) ≡ false
no_user [] text e = refl
no_user (u ∷ us) text e =
    let both = or_parts (has_star u.name) (list_any (λ (user : User). has_star user.name) us) e in
    ap₂ (λ (a b : Bool). a || b) (apart_back (text ++ byte "*" ∷ []) u.name (starred text) both.0) (no_user us text both.1)

-- an example is known as the addresses of its column are
pub known_example : (users : List User) (domains : List (List ℕ)) (column : Column) → is_own_domain domains other_host ≡ false
    → list_any (λ (user : User). has_star user.name) users ≡ false → is_users_address users domains (example_of column) ≡ is_known users domains column
known_example users domains (Named aor) d u = refl
known_example users domains (Begins aor) d u = and_right (is_own_domain domains aor.host) (is_users_name users (aor.user ++ byte "*" ∷ [])) (no_user users aor.user u)
known_example users domains Elsewhere d u = and_left _ _ d

-- ---- the asker's own address

-- a column that an address is of: it is named, or it isn't a configured user's
abbrev pub IsOf : List User → List (List ℕ) → Aor → Column → Type 0
IsOf users domains aor (Named own) = own ≡ aor
IsOf users domains aor (Begins front) = is_users_address users domains aor ≡ false
IsOf users domains aor Elsewhere = is_users_address users domains aor ≡ false

pub is_of_column : (rules : List Rule) (users : List User) (domains : List (List ℕ)) (aor : Aor) → IsOf users domains aor (column_of rules users domains aor)
is_of_column rules users domains aor = by (counts rules domains aor.host) refl (has_name rules users domains aor) refl
  where
    by : (here : Bool) → counts rules domains aor.host ≡ here → (has : Bool) → has_name rules users domains aor ≡ has
        → IsOf users domains aor (cond here (cond has (Named aor) (Begins (record { user = longest_front rules aor; host = aor.host }))) Elsewhere)
    by true here true has = refl
    by true here false has = (or_parts (is_users_address users domains aor) (list_any (λ (rule : Rule). names_address aor rule.target) rules) has).0
    by false here has is = and_left _ _ (or_parts (is_own_domain domains aor.host) (list_any (λ (rule : Rule). names_host aor.host rule.target) rules) here).0

-- what is no configured user's is no asker's own
not_own : (users : List User) (domains : List (List ℕ)) (proven : Option (List ℕ)) (aor : Aor) → is_asker users proven ≡ true → is_users_address users domains aor ≡ false
    → is_own users domains proven aor ≡ false
not_own users domains None aor asker e = e
not_own users domains (Some name) aor asker e =
    false_from_ne_true (is_own users domains (Some name) aor) (λ own. true≢false (sym (own_is_known users domains name aor asker own) ∙ e))

-- an example is the asker's own where the address is of whose column it is
pub own_example : (users : List User) (domains : List (List ℕ)) (proven : Option (List ℕ)) (aor : Aor) (column other : Column)
    → IsOf users domains aor column → is_same_column column other ≡ true → is_asker users proven ≡ true
    → is_users_address users domains (example_of other) ≡ is_known users domains other
    → is_own users domains proven aor ≡ is_own users domains proven (example_of other)
own_example users domains proven aor (Named own) (Named other) is e asker known =
    let same = same_parts own other e in
    ap (is_own users domains proven) (sym is)
    ∙ ap₂ (λ (a b : Bool). a && b) (own_domain_same own other same domains) (ap (λ (name : List ℕ). is_own_name users proven name) same.user)
own_example users domains proven aor (Begins front) (Begins other) is e asker known =
    not_own users domains proven aor asker is ∙ sym (not_own users domains proven (example_of (Begins other)) asker known)
own_example users domains proven aor Elsewhere Elsewhere is e asker known =
    not_own users domains proven aor asker is ∙ sym (not_own users domains proven (example_of Elsewhere) asker known)
own_example users domains proven aor (Named one) (Begins other) is e asker known = absurd cc
own_example users domains proven aor (Named one) Elsewhere is e asker known = absurd cc
own_example users domains proven aor (Begins one) (Named other) is e asker known = absurd cc
own_example users domains proven aor (Begins one) Elsewhere is e asker known = absurd cc
own_example users domains proven aor Elsewhere (Named other) is e asker known = absurd cc
own_example users domains proven aor Elsewhere (Begins other) is e asker known = absurd cc
