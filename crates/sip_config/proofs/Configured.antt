-- What holds of every configuration that a file states.
use Rattle.std.proofs.Common.{◌≡◌, ℕ, ℤ, pos, negsuc, Bool, true, false, ◌&&◌, ◌||◌, ◌==◌, not, cond, position, suc, ◌+◌, ◌≤◌, nat_lt, nat_le, List, [], ◌∷◌, ◌++◌}
use Rattle.std.proofs.Common.{length, codes, Option, Some, None, Result, Ok, Err, refl, sym, ap, ap₂, ◌∙◌, subst, if◌then◌else◌, arith}
use Rattle.std.specs.Str.{bytes_eq}
use Rattle.std.specs.List.{list_all, list_any, position_or_len}
use Rattle.std.proofs.lemmas.List.{map-append}
use Rattle.std.proofs.lemmas.List.Folds.{list_all-append, list_any-append}
use Rattle.std.proofs.lemmas.Bool.{ltb-false}
use Rattle.std.proofs.lemmas.Bool.Decides.{nat_tests}
use Rattle.toml.specs.Data.{Items, no_items, item, Members}
use Rattle.sip_hops.specs.declared.hop.Hop.{Hop}
use Rattle.sip_hops.specs.declared.host_address.HostAddress.{HostAddress}
use Rattle.sip_policy.specs.declared.user.User.{User}
use Rattle.sip_policy.specs.declared.rule.Rule.{Rule}
use Rattle.sip_policy.specs.declared.rule_verdict.RuleVerdict.{RuleVerdict}
use Rattle.sip_policy.specs.Rule.{is_numbered}
use Rattle.sip_policy.specs.Users.{have_own_names}
use Rattle.sip_config_types.specs.declared.config.Config.{Config}
use Rattle.sip_config_values.specs.declared.error.ConfigError.{ConfigError}
use Rattle.sip_config_values.specs.declared.error.ConfigError.TheVariants.{BadValue, DuplicateRule, UnknownGroup}
use Rattle.sip_config_values.specs.declared.key.ConfigKey.{ConfigKey}
use Rattle.sip_config_values.specs.declared.key.ConfigKey.TheVariants as keys
use Rattle.sip_config_values.specs.declared.table_kind.TableKind.{TableKind}
use Rattle.sip_config_values.specs.declared.table_kind.TableKind.TheVariants as kinds
use Rattle.sip_config_values.specs.declared.refusal.Refusal.{Refusal}
use Rattle.sip_config_values.specs.declared.refusal.Refusal.TheVariants.{At}
use Rattle.sip_config_values.specs.Refusals.{◌>>=◌, place, placed, confirmed, kept_if, none_found, error_alone}
use Rattle.sip_config_values.specs.Values.{needed, number_of, between, number_between, items_at, some_items_at}
use Rattle.sip_config_values.specs.Rows.{table_in, rows_after, all_pass}
use Rattle.sip_config_values.specs.Words.{is_hop, hop_named, via_of, via_place, verdict_of}
use Rattle.sip_config.specs.Rules.{id_at, verdict_text, verdict_at, window_at, who_at, operation_at, target_at, rule_lines, new_id, rule_at, names_known_group, rules_of}
use Rattle.sip_config.specs.declared.head.TopLevelKeys.{TopLevelKeys}
use Rattle.sip_config.specs.declared.users.UserLine.TheVariants.{A1, A1Sha256, Groups}
use Rattle.sip_config.specs.Head.{head_of}
use Rattle.sip_config.specs.Users.{new_name, user_line, user_at, users_of, users_at}
use Rattle.sip_config.specs.Hops.{hops_at}
use Rattle.sip_config.specs.HostAddresses.{host_addresses_at}
use Rattle.sip_config.specs.Keys.{all_known}
use Rattle.sip_config.specs.Limits.{all_few}
use Rattle.sip_config.specs.Configuration.{config_of, rules_at, placed_by, configuration_of}
use Rattle.sip_config.specs.Configured.{numbers_differ, ids_of, is_hop_below, names_known_hop, IsConfigured}

-- what came of a value that was not refused
pub record Came {A B E F : Type 0} (r : Result A E) (next : A → Result B F) (b : B) : Type 0 where
  pub value : A
  pub is : r ≡ Ok value
  pub rest : next value ≡ Ok b

pub came : {A B E : Type 0} (r : Result A E) (next : A → Result B E) (b : B) → (r >>= next) ≡ Ok b → Came r next b
came (Ok value) next b e = record { value = value; is = refl; rest = e }
came (Err refusal) next b e = absurd cc

-- the same of a key that was read
pub came_at : {A B : Type 0} (kind : TableKind) (before : ℕ) (key : ConfigKey) (r : Result A ConfigError) (next : A → Result B Refusal) (b : B)
    → (placed kind before key r >>= next) ≡ Ok b → Came r next b
came_at kind before key (Ok value) next b e = record { value = value; is = refl; rest = e }
came_at kind before key (Err error) next b e = absurd cc

-- a value that stands without its place is one with it
pub alone_ok : {A : Type 0} (r : Result A Refusal) (a : A) → error_alone r ≡ Ok a → r ≡ Ok a
alone_ok (Ok value) a e = let same : value ≡ a = cc in ap Ok same
alone_ok (Err refusal) a e = absurd cc

pub confirmed_ok : (t : Bool) (refusal : Refusal) (u : Unit {0}) → confirmed t refusal ≡ Ok u → t ≡ true
confirmed_ok true refusal u e = refl
confirmed_ok false refusal u e = absurd cc

pub kept_is : {A : Type 0} (t : Bool) (a b : A) → kept_if t a ≡ Ok b → a ≡ b
kept_is true a b e = cc
kept_is false a b e = absurd cc

pub kept_passes : {A : Type 0} (t : Bool) (a b : A) → kept_if t a ≡ Ok b → t ≡ true
kept_passes true a b e = refl
kept_passes false a b e = absurd cc

-- what every next row keeps, all rows keep
pub rows_keep : {A : Type 0} (Keeps : List A → Type 0) (list : ConfigKey) (read : List A → Members → Result A Refusal)
    → ((before : List A) (members : Members) (row : A) → Keeps before → read before members ≡ Ok row → Keeps (before ++ row ∷ []))
    → (items : Items) (before rows : List A) → Keeps before → rows_after list read before items ≡ Ok rows → Keeps rows
rows_keep Keeps list read step no_items before rows kept e = let same : before ≡ rows = cc in subst Keeps same kept
rows_keep Keeps list read step (item first items) before rows kept e =
    let row = came (table_in list first >>= read before) (λ r. rows_after list read (before ++ r ∷ []) items) rows e in
    let table = came (table_in list first) (read before) row.value row.is in
    rows_keep Keeps list read step items (before ++ row.value ∷ []) rows (step before table.value row.value kept table.rest) row.rest

pub all_last : {A : Type 0} (p : A → Bool) (before : List A) (row : A) → list_all p before ≡ true → p row ≡ true → list_all p (before ++ row ∷ []) ≡ true
all_last p before row all passes = list_all-append p before (row ∷ []) ∙ ap₂ (λ (x y : Bool). x && (y && true)) all passes

-- ---- numbers

first_of : (a b : Bool) → (a && b) ≡ true → a ≡ true
first_of true b e = refl
first_of false b e = absurd cc

above_zero : (n : ℕ) → nat_le 1 n ≡ true → nat_lt 0 n ≡ true
above_zero n e = grind (arith, nat_tests)

between_low : (low most : ℕ) (z : ℤ) (n : ℕ) → between low most z ≡ Ok n → nat_le low n ≡ true
between_low low most (pos m) n e =
    subst (λ (x : ℕ). nat_le low x ≡ true) (kept_is (nat_le low m && nat_le m most) m n e)
    (first_of (nat_le low m) (nat_le m most) (kept_passes (nat_le low m && nat_le m most) m n e))
between_low low most (negsuc m) n e = absurd cc

id_is_above : (members : Members) (id : ℕ) → id_at members ≡ Ok id → nat_lt 0 id ≡ true
id_is_above members id e =
    let value = came (needed (codes "id") members) (number_between 1 999999) id e in
    let number = came (number_of value.value) (between 1 999999) id value.rest in
    above_zero id (between_low 1 999999 number.value id number.rest)

-- a number that is not among others goes behind them
differ_last : (ns : List ℕ) (n : ℕ) → numbers_differ ns ≡ true → list_any (λ (o : ℕ). o == n) ns ≡ false → numbers_differ (ns ++ n ∷ []) ≡ true
differ_last [] n own new = refl
differ_last (m ∷ ms) n own new = by (m == n) refl (list_any (λ (o : ℕ). m == o) ms) refl own new (differ_last ms n)
  where
    by : (b : Bool) → (m == n) ≡ b → (again : Bool) → list_any (λ (o : ℕ). m == o) ms ≡ again → (not again && numbers_differ ms) ≡ true
        → (b || list_any (λ (o : ℕ). o == n) ms) ≡ false
        → (numbers_differ ms ≡ true → list_any (λ (o : ℕ). o == n) ms ≡ false → numbers_differ (ms ++ n ∷ []) ≡ true)
        → (not (list_any (λ (o : ℕ). m == o) (ms ++ n ∷ [])) && numbers_differ (ms ++ n ∷ [])) ≡ true
    by b e true f own new rest = absurd cc
    by true e false f own new rest = absurd cc
    by false e false f own new rest =
        let none : list_any (λ (o : ℕ). m == o) (ms ++ n ∷ []) ≡ false = list_any-append (λ (o : ℕ). m == o) ms (n ∷ []) ∙ ap₂ (λ (x y : Bool). x || (y || false)) f e in
        ap₂ (λ (x y : Bool). not x && y) none (rest own new)

pub not_is : (b : Bool) → not b ≡ true → b ≡ false
not_is true e = absurd cc
not_is false e = refl

-- what a new number says
record IsNew (before : List ℕ) (members : Members) (id : ℕ) : Type 0 where
  read : id_at members ≡ Ok id
  new : list_any (λ (o : ℕ). o == id) before ≡ false

new_is : (before : List ℕ) (members : Members) (id : ℕ) → new_id before members ≡ Ok id → IsNew before members id
new_is before members id e =
    let twice = At DuplicateRule (place kinds.Rule (length before) keys.Id) in
    let number = came_at kinds.Rule (length before) keys.Id (id_at members) (λ n. confirmed (not (list_any (λ (o : ℕ). o == n) before)) twice >>= λ _. Ok n) id e in
    let test = came (confirmed (not (list_any (λ (o : ℕ). o == number.value) before)) twice) (λ _. Ok number.value) id number.rest in
    let same : number.value ≡ id = cc in
    record {
      read = number.is ∙ ap Ok same;
      new = subst (λ (n : ℕ). list_any (λ (o : ℕ). o == n) before ≡ false) same (not_is (list_any (λ (o : ℕ). o == number.value) before)
          (confirmed_ok (not (list_any (λ (o : ℕ). o == number.value) before)) twice test.value test.is));
    }

ids_keep : (before : List ℕ) (members : Members) (id : ℕ) → numbers_differ before ≡ true → new_id before members ≡ Ok id → numbers_differ (before ++ id ∷ []) ≡ true
ids_keep before members id own e = differ_last before id own (new_is before members id e).new

-- ---- rules

-- what a rule's number and verdict come of
record IsRead (hops : List Hop) (members : Members) (rule : Rule) : Type 0 where
  id_is : id_at members ≡ Ok rule.id
  verdict_is : verdict_at hops members ≡ Ok rule.verdict

rule_is : (version : ℕ) (users : List User) (hops : List Hop) (before : List Rule) (members : Members) (rule : Rule) → rule_at version users hops before members ≡ Ok rule
    → IsRead hops members rule
rule_is version users hops before members rule e =
    let n = length before in
    let id = came_at kinds.Rule n keys.Id (id_at members)
    (λ id. placed kinds.Rule n keys.Verdict (verdict_at hops members) >>= λ verdict. window_at version n members >>=
    λ window. placed kinds.Rule n keys.WhoAsks (who_at users members) >>= λ who. placed kinds.Rule n keys.Operation (operation_at members) >>=
    λ operation. placed kinds.Rule n keys.Target (target_at members) >>= λ target.
    Ok (record { id = id; who = who; operation = operation; target = target; window = window; verdict = verdict })) rule e in
    let verdict = came_at kinds.Rule n keys.Verdict (verdict_at hops members)
    (λ verdict. window_at version n members >>= λ window. placed kinds.Rule n keys.WhoAsks (who_at users members) >>=
    λ who. placed kinds.Rule n keys.Operation (operation_at members) >>= λ operation. placed kinds.Rule n keys.Target (target_at members) >>= λ target.
    Ok (record { id = id.value; who = who; operation = operation; target = target; window = window; verdict = verdict })) rule id.rest in
    let window = came (window_at version n members)
    (λ window. placed kinds.Rule n keys.WhoAsks (who_at users members) >>= λ who. placed kinds.Rule n keys.Operation (operation_at members) >>=
    λ operation. placed kinds.Rule n keys.Target (target_at members) >>= λ target.
    Ok (record { id = id.value; who = who; operation = operation; target = target; window = window; verdict = verdict.value })) rule verdict.rest in
    let who = came_at kinds.Rule n keys.WhoAsks (who_at users members)
    (λ who. placed kinds.Rule n keys.Operation (operation_at members) >>= λ operation. placed kinds.Rule n keys.Target (target_at members) >>= λ target.
    Ok (record { id = id.value; who = who; operation = operation; target = target; window = window.value; verdict = verdict.value })) rule window.rest in
    let operation = came_at kinds.Rule n keys.Operation (operation_at members)
    (λ operation. placed kinds.Rule n keys.Target (target_at members) >>= λ target.
    Ok (record { id = id.value; who = who.value; operation = operation; target = target; window = window.value; verdict = verdict.value })) rule who.rest in
    let target = came_at kinds.Rule n keys.Target (target_at members)
    (λ target. Ok (record { id = id.value; who = who.value; operation = operation.value; target = target; window = window.value; verdict = verdict.value })) rule
    operation.rest in
    let made : Rule = record { id = id.value; who = who.value; operation = operation.value; target = target.value; window = window.value; verdict = verdict.value } in
    let same : made ≡ rule = cc in
    record {
      id_is = id.is ∙ ap (λ (r : Rule). Ok r.id) same;
      verdict_is = verdict.is ∙ ap (λ (r : Rule). Ok r.verdict) same;
    }

-- a hop that was found stands among the hops
by_place : (place count : ℕ) (within : Bool) (verdict : RuleVerdict) → nat_lt place count ≡ within → via_place (cond within (Some place) None) ≡ Ok verdict
    → is_hop_below count verdict ≡ true
by_place place count true verdict lt e = let same : RuleVerdict.Via place ≡ verdict = cc in subst (λ (v : RuleVerdict). is_hop_below count v ≡ true) same lt
by_place place count false verdict lt e = absurd cc

via_known : (hops : List Hop) (name : Option (List ℕ)) (verdict : RuleVerdict) → via_of hops name ≡ Ok verdict → is_hop_below (length hops) verdict ≡ true
via_known hops None verdict e = absurd cc
via_known hops (Some name) verdict e =
    by_place (position_or_len (is_hop name) hops) (length hops) (nat_lt (position_or_len (is_hop name) hops) (length hops)) verdict refl e

by_text : (hops : List Hop) (allows denies : Bool) (name : Option (List ℕ)) (verdict : RuleVerdict)
    → (if allows then Ok RuleVerdict.Allow else if denies then Ok RuleVerdict.Deny else via_of hops name) ≡ Ok verdict → is_hop_below (length hops) verdict ≡ true
by_text hops true denies name verdict e = let same : RuleVerdict.Allow ≡ verdict = cc in subst (λ (v : RuleVerdict). is_hop_below (length hops) v ≡ true) same refl
by_text hops false true name verdict e = let same : RuleVerdict.Deny ≡ verdict = cc in subst (λ (v : RuleVerdict). is_hop_below (length hops) v ≡ true) same refl
by_text hops false false name verdict e = via_known hops name verdict e

verdict_known : (hops : List Hop) (members : Members) (verdict : RuleVerdict) → verdict_at hops members ≡ Ok verdict → is_hop_below (length hops) verdict ≡ true
verdict_known hops members verdict e =
    let text = came (verdict_text members) (verdict_of hops) verdict e in
    by_text hops (bytes_eq text.value (codes "allow")) (bytes_eq text.value (codes "deny")) (hop_named text.value) verdict text.rest

-- the numbers of rules are those that were read alone
ids_same : (version : ℕ) (users : List User) (hops : List Hop) (items : Items) (before ids : List ℕ) (rows rules : List Rule) → ids_of rows ≡ before
    → rows_after keys.Rules new_id before items ≡ Ok ids → rows_after keys.Rules (rule_at version users hops) rows items ≡ Ok rules → ids_of rules ≡ ids
ids_same version users hops no_items before ids rows rules same e f =
    let one : before ≡ ids = cc in let other : rows ≡ rules = cc in sym (ap ids_of other) ∙ same ∙ one
ids_same version users hops (item first items) before ids rows rules same e f =
    let number = came (table_in keys.Rules first >>= new_id before) (λ n. rows_after keys.Rules new_id (before ++ n ∷ []) items) ids e in
    let its = came (table_in keys.Rules first) (new_id before) number.value number.is in
    let rule = came (table_in keys.Rules first >>= rule_at version users hops rows) (λ r. rows_after keys.Rules (rule_at version users hops) (rows ++ r ∷ []) items) rules
    f in
    let table = came (table_in keys.Rules first) (rule_at version users hops rows) rule.value rule.is in
    let tables : table.value ≡ its.value = cc in
    let read : id_at table.value ≡ Ok rule.value.id = (rule_is version users hops rows table.value rule.value table.rest).id_is in
    let wanted : id_at its.value ≡ Ok number.value = (new_is before its.value number.value its.rest).read in
    let equal : id_at table.value ≡ Ok number.value = ap id_at tables ∙ wanted in
    let number_is : rule.value.id ≡ number.value = cc in
    ids_same version users hops items (before ++ number.value ∷ []) ids (rows ++ rule.value ∷ []) rules
    (map-append (λ (r : Rule). r.id) rows (rule.value ∷ []) ∙ ap₂ (λ (ns : List ℕ) (n : ℕ). ns ++ n ∷ []) same number_is) number.rest rule.rest

-- what holds of the rules of a list
record AreGood (users : List User) (hops : List Hop) (rules : List Rule) : Type 0 where
  ids_differ : numbers_differ (ids_of rules) ≡ true
  numbered : list_all is_numbered rules ≡ true
  hops_known : list_all (names_known_hop hops) rules ≡ true
  groups_known : list_all (names_known_group users) rules ≡ true

-- where none is found, all pass
none_fails : {A : Type 0} (p : A → Bool) (xs : List A) → length xs ≤ position_or_len (λ x. not (p x)) xs → list_all p xs ≡ true
none_fails p [] e = refl
none_fails p (x ∷ xs) e = by (p x) e (none_fails p xs)
  where
    by : (b : Bool) → suc (length xs) ≤ cond (not (not b)) (1 + position_or_len (λ x. not (p x)) xs) 0
        → (length xs ≤ position_or_len (λ x. not (p x)) xs → list_all p xs ≡ true) → (b && list_all p xs) ≡ true
    by true e rest = rest (omega (arith, e))
    by false e rest = absurd (omega (arith, e))

not_found : (error : ConfigError) (kind : TableKind) (key : ConfigKey) (at count : ℕ) (within : Bool) (u : Unit {0}) → nat_lt at count ≡ within
    → none_found error kind key (cond within (Some at) None) ≡ Ok u → count ≤ at
not_found error kind key at count true u lt e = absurd cc
not_found error kind key at count false u lt e = ltb-false at count lt

-- the rows that the rules of a list are
pub rule_rows : (version : ℕ) (users : List User) (hops : List Hop) (items : Items) (rules : List Rule) → rules_of version users hops items ≡ Ok rules
    → rows_after keys.Rules (rule_at version users hops) [] items ≡ Ok rules
rule_rows version users hops items rules e =
    let ids = came (rows_after keys.Rules new_id [] items)
    (λ _. rows_after keys.Rules (rule_at version users hops) [] items >>= λ rows. none_found UnknownGroup kinds.Rule keys.WhoAsks
    (position (λ rule. not (names_known_group users rule)) rows) >>= λ _. Ok rows) rules e in
    let rows = came (rows_after keys.Rules (rule_at version users hops) [] items) (λ rows.
    none_found UnknownGroup kinds.Rule keys.WhoAsks (position (λ rule. not (names_known_group users rule)) rows) >>= λ _. Ok rows) rules ids.rest in
    let test = came (none_found UnknownGroup kinds.Rule keys.WhoAsks (position (λ rule. not (names_known_group users rule)) rows.value)) (λ _. Ok rows.value) rules
    rows.rest in
    let same : rows.value ≡ rules = cc in
    rows.is ∙ ap (λ (rs : List Rule). Ok rs) same

rules_good : (version : ℕ) (users : List User) (hops : List Hop) (items : Items) (rules : List Rule) → rules_of version users hops items ≡ Ok rules
    → AreGood users hops rules
rules_good version users hops items rules e =
    let ids = came (rows_after keys.Rules new_id [] items)
    (λ _. rows_after keys.Rules (rule_at version users hops) [] items >>= λ rows. none_found UnknownGroup kinds.Rule keys.WhoAsks
    (position (λ rule. not (names_known_group users rule)) rows) >>= λ _. Ok rows) rules e in
    let rows = came (rows_after keys.Rules (rule_at version users hops) [] items) (λ rows.
    none_found UnknownGroup kinds.Rule keys.WhoAsks (position (λ rule. not (names_known_group users rule)) rows) >>= λ _. Ok rows) rules ids.rest in
    let test = came (none_found UnknownGroup kinds.Rule keys.WhoAsks (position (λ rule. not (names_known_group users rule)) rows.value)) (λ _. Ok rows.value) rules
    rows.rest in
    let same : rows.value ≡ rules = cc in
    let good : AreGood users hops rows.value =
    record {
      ids_differ =
          ap numbers_differ (ids_same version users hops items [] ids.value [] rows.value refl ids.is rows.is)
          ∙ rows_keep (λ ns. numbers_differ ns ≡ true) keys.Rules new_id ids_keep items [] ids.value refl ids.is;
      numbered =
          rows_keep (λ rs. list_all is_numbered rs ≡ true) keys.Rules (rule_at version users hops)
          (λ before members rule all read. all_last is_numbered before rule all (id_is_above members rule.id (rule_is version users hops before members rule read).id_is))
          items [] rows.value refl rows.is;
      hops_known =
          rows_keep (λ rs. list_all (names_known_hop hops) rs ≡ true) keys.Rules (rule_at version users hops)
          (λ before members rule all read. all_last (names_known_hop hops) before rule all
          (verdict_known hops members rule.verdict (rule_is version users hops before members rule read).verdict_is)) items [] rows.value refl rows.is;
      groups_known = none_fails (names_known_group users) rows.value (not_found UnknownGroup kinds.Rule keys.WhoAsks
          (position_or_len (λ rule. not (names_known_group users rule)) rows.value) (length rows.value)
          (nat_lt (position_or_len (λ rule. not (names_known_group users rule)) rows.value) (length rows.value)) test.value refl test.is);
    } in
    subst (λ (rs : List Rule). AreGood users hops rs) same good

-- the list that rules come of
pub record AreRules (version : ℕ) (users : List User) (hops : List Hop) (members : Members) (rules : List Rule) : Type 0 where
  pub items : Items
  pub items_are : items_at (codes "rule") members ≡ Ok items
  pub rules_are : rules_of version users hops items ≡ Ok rules

pub are_rules : (version : ℕ) (users : List User) (hops : List Hop) (members : Members) (rules : List Rule) → rules_at version users hops members ≡ Ok rules
    → AreRules version users hops members rules
are_rules version users hops members rules e =
    let items = came_at kinds.Whole 0 keys.Rules (items_at (codes "rule") members) (λ items. rule_lines version users items >>= λ _. all_known version members >>=
    λ _. rules_of version users hops items) rules e in
    let lines = came (rule_lines version users items.value) (λ _. all_known version members >>= λ _. rules_of version users hops items.value) rules items.rest in
    let known = came (all_known version members) (λ _. rules_of version users hops items.value) rules lines.rest in
    record { items = items.value; items_are = items.is; rules_are = known.rest }

-- ---- users

-- the rows that the users of a list are
pub record AreUsers (items : Items) (users : List User) : Type 0 where
  pub rows_are : rows_after keys.Users user_at [] items ≡ Ok users
  pub own : have_own_names users ≡ true

pub are_users : (list : Items) (users : List User) → users_of list ≡ Ok users → AreUsers list users
are_users list users e =
    let bad = At BadValue (place kinds.Whole 0 keys.Users) in
    let names = came (rows_after keys.Users new_name [] list)
    (λ _. all_pass keys.Users (user_line A1) 0 list >>= λ _. all_pass keys.Users (user_line A1Sha256) 0 list >>= λ _. all_pass keys.Users (user_line Groups) 0 list >>=
    λ _. rows_after keys.Users user_at [] list >>= λ rows. confirmed (have_own_names rows) bad >>= λ _. Ok rows) users e in
    let first = came (all_pass keys.Users (user_line A1) 0 list)
    (λ _. all_pass keys.Users (user_line A1Sha256) 0 list >>= λ _. all_pass keys.Users (user_line Groups) 0 list >>= λ _. rows_after keys.Users user_at [] list >>=
    λ rows. confirmed (have_own_names rows) bad >>= λ _. Ok rows) users names.rest in
    let second = came (all_pass keys.Users (user_line A1Sha256) 0 list)
    (λ _. all_pass keys.Users (user_line Groups) 0 list >>= λ _. rows_after keys.Users user_at [] list >>= λ rows. confirmed (have_own_names rows) bad >>= λ _. Ok rows)
    users first.rest in
    let third = came (all_pass keys.Users (user_line Groups) 0 list) (λ _. rows_after keys.Users user_at [] list >>= λ rows. confirmed (have_own_names rows) bad >>=
    λ _. Ok rows) users second.rest in
    let rows = came (rows_after keys.Users user_at [] list) (λ rows. confirmed (have_own_names rows) bad >>= λ _. Ok rows) users third.rest in
    let own = came (confirmed (have_own_names rows.value) bad) (λ _. Ok rows.value) users rows.rest in
    let same : rows.value ≡ users = cc in
    record {
      rows_are = rows.is ∙ ap (λ (us : List User). Ok us) same;
      own = subst (λ (us : List User). have_own_names us ≡ true) same (confirmed_ok (have_own_names rows.value) bad own.value own.is);
    }

-- ---- the whole

-- the parts that a configuration comes of
pub record Parts (members : Members) (config : Config) : Type 0 where
  pub few : all_few members ≡ Ok tt
  pub head : TopLevelKeys
  pub head_is : head_of members ≡ Ok head
  pub user_list : Items
  pub user_list_is : some_items_at (codes "user") members ≡ Ok user_list
  pub users : List User
  pub users_are : AreUsers user_list users
  pub hops : List Hop
  pub hops_are : hops_at members ≡ Ok hops
  pub addresses : List HostAddress
  pub addresses_are : host_addresses_at members ≡ Ok addresses
  pub rules : List Rule
  pub rules_are : AreRules head.version users hops members rules
  pub same : config_of head users hops addresses rules ≡ config

pub parts_of : (members : Members) (config : Config) → placed_by members ≡ Ok config → Parts members config
parts_of members config e =
    let few = came (all_few members)
    (λ _. head_of members >>= λ head. users_at members >>= λ users. hops_at members >>= λ hops. host_addresses_at members >>=
    λ addresses. rules_at head.version users hops members >>= λ rules.
    Ok (config_of head users hops addresses rules)) config e in
    let head = came (head_of members)
    (λ head. users_at members >>= λ users. hops_at members >>= λ hops. host_addresses_at members >>= λ addresses. rules_at head.version users hops members >>=
    λ rules. Ok (config_of head users hops addresses rules))
    config few.rest in
    let users = came (users_at members)
    (λ users. hops_at members >>= λ hops. host_addresses_at members >>= λ addresses. rules_at head.value.version users hops members >>=
    λ rules. Ok (config_of head.value users hops addresses rules)) config head.rest in
    let list = came_at kinds.Whole 0 keys.Users (some_items_at (codes "user") members) users_of users.value users.is in
    let hops = came (hops_at members)
    (λ hops. host_addresses_at members >>= λ addresses. rules_at head.value.version users.value hops members >>=
    λ rules. Ok (config_of head.value users.value hops addresses rules)) config users.rest in
    let addresses = came (host_addresses_at members)
    (λ addresses. rules_at head.value.version users.value hops.value members >>= λ rules. Ok (config_of head.value users.value hops.value addresses rules)) config
    hops.rest in
    let rules = came (rules_at head.value.version users.value hops.value members) (λ rules. Ok (config_of head.value users.value hops.value addresses.value rules)) config
    addresses.rest in
    let made : Config = config_of head.value users.value hops.value addresses.value rules.value in
    let same : made ≡ config = cc in
    record {
      few = few.is;
      head = head.value;
      head_is = head.is;
      user_list = list.value;
      user_list_is = list.is;
      users = users.value;
      users_are = are_users list.value users.value list.rest;
      hops = hops.value;
      hops_are = hops.is;
      addresses = addresses.value;
      addresses_are = addresses.is;
      rules = rules.value;
      rules_are = are_rules head.value.version users.value hops.value members rules.value rules.is;
      same = same;
    }

whole : (members : Members) (config : Config) → placed_by members ≡ Ok config → IsConfigured config
whole members config e =
    let p = parts_of members config e in
    let good = rules_good p.head.version p.users p.hops p.rules_are.items p.rules p.rules_are.rules_are in
    let is_good : IsConfigured (config_of p.head p.users p.hops p.addresses p.rules) =
    record {
      names_differ = p.users_are.own;
      ids_differ = good.ids_differ;
      numbered = good.numbered;
      hops_known = good.hops_known;
      groups_known = good.groups_known;
    } in
    subst IsConfigured p.same is_good

pub configured : (file : Option Members) (config : Config) → configuration_of file ≡ Ok config → IsConfigured config
configured None config e = absurd cc
configured (Some members) config e = whole members config (alone_ok (placed_by members) config e)
