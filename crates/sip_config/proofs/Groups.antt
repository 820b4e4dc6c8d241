-- The groups that have members, gathered into a list of names.
use Rattle.std.proofs.Common.{◌≡◌, ℕ, ◌+◌, ◌<◌, ◌≤◌, Bool, true, false, ◌||◌, not, cond, position, nat_lt, Some, None, Option, Result, Ok, if◌then◌else◌, List, [], ◌∷◌}
use Rattle.std.proofs.Common.{◌++◌, length, take, get_or, refl, sym, ap, ap₂, ◌∙◌}
use Rattle.std.specs.List.{list_any, position_or_len}
use Rattle.std.specs.Str.{bytes_eq}
use Rattle.std.specs.Cmp.Lexicographic.{same_text}
use Rattle.std.proofs.lemmas.List.{take_more, take_all}
use Rattle.std.proofs.lemmas.List.Folds.{list_any-append}
use Rattle.sip_policy.specs.declared.user.User.{User}
use Rattle.sip_policy.specs.declared.rule.Rule.{Rule}
use Rattle.sip_policy.specs.declared.who.Who.{Who}
use Rattle.toml.specs.Data.{Items}
use Rattle.sip_hops.specs.declared.hop.Hop.{Hop}
use Rattle.sip_config_values.specs.declared.error.ConfigError.TheVariants.{UnknownGroup}
use Rattle.sip_config_values.specs.declared.key.ConfigKey.TheVariants as keys
use Rattle.sip_config_values.specs.declared.table_kind.TableKind.TheVariants as kinds
use Rattle.sip_config_values.specs.declared.refusal.Refusal.{Refusal}
use Rattle.sip_config_values.specs.Refusals.{◌>>=◌, none_found}
use Rattle.sip_config_values.specs.Rows.{rows_after}
use Rattle.sip_config.specs.Rules.{has_member, is_known, is_listed, names_known_group, new_id, rule_at, rules_of}

or_false : (b : Bool) → (b || false) ≡ b
or_false true = refl
or_false false = refl

or_true : (b : Bool) → (b || true) ≡ true
or_true true = refl
or_true false = refl

one_behind : (a b x : Bool) → ((a || b) || x) ≡ (a || (b || (x || false)))
one_behind true b x = refl
one_behind false true x = refl
one_behind false false true = refl
one_behind false false false = refl

-- a name that is there already tells nothing new
absorbed : (group name : List ℕ) (names : List (List ℕ)) (same : Bool) → bytes_eq group name ≡ same → list_any (bytes_eq name) names ≡ true
    → list_any (bytes_eq group) names ≡ (list_any (bytes_eq group) names || same)
absorbed group name names true e there =
    let is : group ≡ name = same_text group name (sym e) in
    let all : list_any (bytes_eq group) names ≡ true = ap (λ (n : List ℕ). list_any (bytes_eq n) names) is ∙ there in
    all ∙ sym (or_true (list_any (bytes_eq group) names))
absorbed group name names false e there = sym (or_false (list_any (bytes_eq group) names))

one_more_by : (group name : List ℕ) (names : List (List ℕ)) (there : Bool) → list_any (bytes_eq name) names ≡ there
    → list_any (bytes_eq group) (if not there then names ++ name ∷ [] else names) ≡ (list_any (bytes_eq group) names || bytes_eq group name)
one_more_by group name names true e = absorbed group name names (bytes_eq group name) refl e
one_more_by group name names false e = list_any-append (bytes_eq group) names (name ∷ [])
    ∙ ap (λ (b : Bool). list_any (bytes_eq group) names || b) (or_false (bytes_eq group name))

-- the names that were there, and these groups
pub record AreAdded (old names groups : List (List ℕ)) : Type 0 where
  pub each : (group : List ℕ) → list_any (bytes_eq group) names ≡ (list_any (bytes_eq group) old || list_any (bytes_eq group) groups)

pub none_added : (names groups : List (List ℕ)) → AreAdded names names (take 0 groups)
none_added names groups = record { each = λ group. sym (or_false (list_any (bytes_eq group) names)) }

pub added_more : (old names more groups : List (List ℕ)) (i : ℕ) (name item : List ℕ) (new : Bool) → AreAdded old names (take i groups) → i < length groups
    → item ≡ get_or groups i item → name ≡ item
    → new ≡ not (list_any (bytes_eq name) names) → more ≡ (if new then names ++ name ∷ [] else names) → AreAdded old more (take (i + 1) groups)
added_more old names more groups i name item new h within at is new_is grew = record { each = each }
  where
    each : (group : List ℕ) → list_any (bytes_eq group) more ≡ (list_any (bytes_eq group) old || list_any (bytes_eq group) (take (i + 1) groups))
    each group =
        let taken : take (i + 1) groups ≡ take i groups ++ name ∷ [] = take_more groups i item within ∙ ap (λ (x : List ℕ). take i groups ++ x ∷ []) (sym (is ∙ at)) in
        let one : list_any (bytes_eq group) more ≡ (list_any (bytes_eq group) names || bytes_eq group name) =
        ap (list_any (bytes_eq group)) (grew ∙ ap (λ (b : Bool). if b then names ++ name ∷ [] else names) new_is)
        ∙ one_more_by group name names (list_any (bytes_eq name) names) refl in
        one
        ∙ ap (λ (b : Bool). b || bytes_eq group name) (h.each group)
        ∙ one_behind (list_any (bytes_eq group) old) (list_any (bytes_eq group) (take i groups)) (bytes_eq group name)
        ∙ ap (λ (b : Bool). list_any (bytes_eq group) old || b) (sym (ap (list_any (bytes_eq group)) taken
        ∙ list_any-append (bytes_eq group) (take i groups) (name ∷ [])))

pub all_added : (old names groups : List (List ℕ)) (i : ℕ) → AreAdded old names (take i groups) → length groups ≤ i
    → (group : List ℕ) → list_any (bytes_eq group) names ≡ (list_any (bytes_eq group) old || list_any (bytes_eq group) groups)
all_added old names groups i h past group = h.each group ∙ ap (λ (gs : List (List ℕ)). list_any (bytes_eq group) old || list_any (bytes_eq group) gs)
    (take_all i groups past)

-- names are those of the groups that have a member
pub record HaveMembers (names : List (List ℕ)) (users : List User) : Type 0 where
  pub each : (group : List ℕ) → list_any (bytes_eq group) names ≡ has_member users group

pub no_members : (users : List User) → HaveMembers [] (take 0 users)
no_members users = record { each = λ group. refl }

pub members_more : (names more : List (List ℕ)) (users : List User) (i : ℕ) (user : User) (groups : List (List ℕ)) → HaveMembers names (take i users) → i < length users
    → user ≡ get_or users i user → groups ≡ user.groups
    → ((group : List ℕ) → list_any (bytes_eq group) more ≡ (list_any (bytes_eq group) names || list_any (bytes_eq group) groups)) → HaveMembers more (take (i + 1) users)
members_more names more users i user groups h within at is added = record { each = each }
  where
    each : (group : List ℕ) → list_any (bytes_eq group) more ≡ has_member (take (i + 1) users) group
    each group =
        let test = λ (u : User). list_any (bytes_eq group) u.groups in
        let taken : take (i + 1) users ≡ take i users ++ user ∷ [] = take_more users i user within ∙ ap (λ (u : User). take i users ++ u ∷ []) (sym at) in
        added group
        ∙ ap₂ (λ (b : Bool) (gs : List (List ℕ)). b || list_any (bytes_eq group) gs) (h.each group) is
        ∙ ap (λ (b : Bool). has_member (take i users) group || b) (sym (or_false (list_any (bytes_eq group) user.groups)))
        ∙ sym (ap (list_any test) taken ∙ list_any-append test (take i users) (user ∷ []))

pub all_members : (names : List (List ℕ)) (users : List User) (i : ℕ) → HaveMembers names (take i users) → length users ≤ i → (group : List ℕ)
    → list_any (bytes_eq group) names ≡ has_member users group
all_members names users i h past group = h.each group ∙ ap (λ (us : List User). has_member us group) (take_all i users past)

listed_is : (names : List (List ℕ)) (users : List User) → ((group : List ℕ) → list_any (bytes_eq group) names ≡ has_member users group) → (who : Who)
    → is_listed names who ≡ is_known users who
listed_is names users h Who.Anyone = refl
listed_is names users h Who.Proven = refl
listed_is names users h (Who.User name) = refl
listed_is names users h (Who.Group group) = h group

-- the first rule whose group isn't among these is the first whose group has no member
same_place : (names : List (List ℕ)) (users : List User) (rules : List Rule) → ((group : List ℕ) → list_any (bytes_eq group) names ≡ has_member users group)
    → position_or_len (λ (rule : Rule). not (is_listed names rule.who)) rules ≡ position_or_len (λ (rule : Rule). not (names_known_group users rule)) rules
same_place names users [] h = refl
same_place names users (rule ∷ rules) h = ap₂ (λ (b : Bool) (n : ℕ). cond {A = ℕ} (not (not b)) (1 + n) 0) (listed_is names users h rule.who)
    (same_place names users rules h)

pub listed_same : (names : List (List ℕ)) (users : List User) (rules : List Rule) → ((group : List ℕ) → list_any (bytes_eq group) names ≡ has_member users group)
    → position (λ (rule : Rule). not (is_listed names rule.who)) rules ≡ position (λ (rule : Rule). not (names_known_group users rule)) rules
listed_same names users rules h = ap (λ (n : ℕ). cond {A = Option ℕ} (nat_lt n (length rules)) (Some n) None) (same_place names users rules h)

-- ---- the end of rules

-- the end of the rules of a list, by the first that names a group without a member
abbrev pub ended : List Rule → Option ℕ → Result (List Rule) Refusal
ended rules unknown = none_found UnknownGroup kinds.Rule keys.WhoAsks unknown >>= λ _. Ok rules

pub groups_end : (version : ℕ) (users : List User) (hops : List Hop) (items : Items) (ids : List ℕ) (rules slice : List Rule) (unknown : Option ℕ)
    → rows_after keys.Rules new_id [] items ≡ Ok ids → rows_after keys.Rules (rule_at version users hops) [] items ≡ Ok rules → slice ≡ rules
    → unknown ≡ position (λ (rule : Rule). not (names_known_group users rule)) slice → rules_of version users hops items ≡ ended rules unknown
groups_end version users hops items ids rules slice unknown e f s u =
    let unknown_in = λ (rs : List Rule). position (λ (rule : Rule). not (names_known_group users rule)) rs in
    ap (λ (r : Result (List ℕ) Refusal). r >>= λ _. rows_after keys.Rules (rule_at version users hops) [] items >>= λ rs. ended rs (unknown_in rs)) e
    ∙ ap (λ (r : Result (List Rule) Refusal). r >>= λ rs. ended rs (unknown_in rs)) f
    ∙ ap (ended rules) (sym (u ∙ ap unknown_in s))
