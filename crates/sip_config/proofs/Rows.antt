-- Lists of values, item by item.
use Rattle.std.proofs.Common.{◌≡◌, ℕ, ◌+◌, ◌<◌, ◌≤◌, if◌then◌else◌, List, [], ◌∷◌, ◌++◌, length, drop, get_or, Some, None, Result, Ok, Err, refl, sym, ap, ◌∙◌, arith}
use Rattle.std.proofs.lemmas.List.{drop_all}
use Rattle.toml.specs.Data.{Members, as_table}
use Rattle.toml.specs.View.{view, items_view}
use Rattle.toml.specs.declared.value.Value.{Value}
use Rattle.toml.proofs.Views.{items_view-drop}
use Rattle.sip_config_values.specs.declared.key.ConfigKey.{ConfigKey}
use Rattle.sip_config_values.specs.declared.refusal.Refusal.{Refusal}
use Rattle.sip_config_values.specs.declared.refusal.Refusal.TheVariants.{NoMemory, At, Twice}
use Rattle.sip_config_values.specs.Refusals.{◌>>=◌, ReadsAt}
use Rattle.sip_config_values.specs.Rows.{table_in, rows_after, all_pass}
use Rattle.sip_config.specs.Limits.{count_items, has_many_groups, many_groups_after}

-- one more row
pub rows_step : {A : Type 0} (list : ConfigKey) (read : List A → Members → Result A Refusal) (values : List Value) (i : ℕ) (other : Value) (before : List A)
    → i < length values
    → rows_after list read before (items_view (drop i values)) ≡ (table_in list (view (get_or values i other)) >>= read before >>=
    λ row. rows_after list read (before ++ row ∷ []) (items_view (drop (i + 1) values)))
rows_step list read values i other before within = ap (rows_after list read before) (items_view-drop values i other within)

gathered : {A : Type 0} (before : List A) (next : List A → Result (List A) Refusal) (row : Result A Refusal)
    → (row >>= λ r. next (before ++ r ∷ [])) ≡ ((row >>= λ r. Ok (before ++ r ∷ [])) >>= next)
gathered before next (Ok row) = refl
gathered before next (Err refusal) = refl

grow_by : {A : Type 0} (read : List A → Members → Result A Refusal) (before : List A) (next : List A → Result (List A) Refusal) (table : Result Members Refusal)
    → (table >>= read before >>= λ row. next (before ++ row ∷ [])) ≡ ((table >>= λ members. (read before members >>= λ row. Ok (before ++ row ∷ []))) >>= next)
grow_by read before next (Ok members) = gathered before next (read before members)
grow_by read before next (Err refusal) = refl

-- one more row goes behind those before
pub grow_step : {A : Type 0} (list : ConfigKey) (read : List A → Members → Result A Refusal) (values : List Value) (i : ℕ) (other : Value) (before : List A)
    → i < length values
    → rows_after list read before (items_view (drop i values))
    ≡ ((table_in list (view (get_or values i other)) >>= λ members. (read before members >>= λ row. Ok (before ++ row ∷ []))) >>=
    λ rows. rows_after list read rows (items_view (drop (i + 1) values)))
grow_step list read values i other before within =
    rows_step list read values i other before within ∙ grow_by read before (λ rows. rows_after list read rows (items_view (drop (i + 1) values)))
    (table_in list (view (get_or values i other)))

-- no value is left
pub rows_end : {A : Type 0} (list : ConfigKey) (read : List A → Members → Result A Refusal) (values : List Value) (i : ℕ) (before : List A) → length values ≤ i
    → rows_after list read before (items_view (drop i values)) ≡ Ok before
rows_end list read values i before past = ap (λ (vs : List Value). rows_after list read before (items_view vs)) (drop_all i values past)

pub pass_step : (list : ConfigKey) (line : ℕ → Members → Result (Unit {0}) Refusal) (at : ℕ) (values : List Value) (i : ℕ) (other : Value) → i < length values
    → all_pass list line at (items_view (drop i values)) ≡ (table_in list (view (get_or values i other)) >>= line at >>=
    λ _. all_pass list line (at + 1) (items_view (drop (i + 1) values)))
pass_step list line at values i other within = ap (all_pass list line at) (items_view-drop values i other within)

pub pass_end : (list : ConfigKey) (line : ℕ → Members → Result (Unit {0}) Refusal) (at : ℕ) (values : List Value) (i : ℕ) → length values ≤ i
    → all_pass list line at (items_view (drop i values)) ≡ Ok tt
pass_end list line at values i past = ap (λ (vs : List Value). all_pass list line at (items_view vs)) (drop_all i values past)

-- ---- one turn of a loop

-- what is left to read once something is read
pub went_on : {A B : Type 0} (first : Result A Refusal) (next : A → Result B Refusal) (value : A) (start wanted : Result B Refusal)
    → start ≡ (first >>= next) → start ≡ wanted → first ≡ Ok value → next value ≡ wanted
went_on {A} first next value start wanted step so is = sym (ap (λ (r : Result A Refusal). r >>= next) is) ∙ sym step ∙ so

refused_so : {A B C D : Type 0} (view : C → A) (other : D → B) (e : Refusal) (first : Result A Refusal) (wanted : Result B Refusal)
    → (first ≡ Err e → wanted ≡ Err e) → ReadsAt view (Err e) first → ReadsAt other (Err e) wanted
refused_so view other NoMemory first wanted so read = tt
refused_so view other (At error at) first wanted so read = so read
refused_so view other (Twice at) first wanted so read = so read

-- what is refused without a want of memory
pub reads_err : {A C : Type 0} (view : C → A) (e : Refusal) (wanted : Result A Refusal) → wanted ≡ Err e → ReadsAt view (Err e) wanted
reads_err view NoMemory wanted is = tt
reads_err view (At error at) wanted is = is
reads_err view (Twice at) wanted is = is

-- what is refused once something is refused
pub stopped : {A B C D : Type 0} (view : C → A) (other : D → B) (e : Refusal) (first : Result A Refusal) (next : A → Result B Refusal) (start wanted : Result B Refusal)
    → start ≡ (first >>= next) → start ≡ wanted → ReadsAt view (Err e) first → ReadsAt other (Err e) wanted
stopped {A} view other e first next start wanted step so read =
    refused_so view other e first wanted (λ is. sym so ∙ step ∙ ap (λ (r : Result A Refusal). r >>= next) is) read

its_table : (list : ConfigKey) (values : List Value) (i : ℕ) (value : Value) (table : Members) → value ≡ get_or values i value → table_in list (view value) ≡ Ok table
    → table_in list (view (get_or values i value)) ≡ Ok table
its_table list values i value table is read = ap (λ (v : Value). table_in list (view v)) (sym is) ∙ read

-- a row is read from the table of its item
pub row_at : {A : Type 0} (list : ConfigKey) (read : List A → Members → Result A Refusal) (values : List Value) (i : ℕ) (value : Value) (before : List A)
    (table : Members)
    → i < length values → value ≡ get_or values i value → table_in list (view value) ≡ Ok table
    → rows_after list read before (items_view (drop i values)) ≡ (read before table >>=
    λ row. rows_after list read (before ++ row ∷ []) (items_view (drop (i + 1) values)))
row_at {A} list read values i value before table within is it =
    rows_step list read values i value before within
    ∙ ap (λ (t : Result Members Refusal). t >>= read before >>= λ row. rows_after list read (before ++ row ∷ []) (items_view (drop (i + 1) values)))
    (its_table list values i value table is it)

-- the same of rows that a table's goes behind
pub rows_at : {A : Type 0} (list : ConfigKey) (read : List A → Members → Result A Refusal) (values : List Value) (i : ℕ) (value : Value) (before : List A)
    (table : Members)
    → i < length values → value ≡ get_or values i value → table_in list (view value) ≡ Ok table
    → rows_after list read before (items_view (drop i values))
    ≡ ((read before table >>= λ row. Ok (before ++ row ∷ [])) >>= λ rows. rows_after list read rows (items_view (drop (i + 1) values)))
rows_at list read values i value before table within is it =
    row_at list read values i value before table within is it ∙ gathered before (λ rows. rows_after list read rows (items_view (drop (i + 1) values))) (read before table)

-- a table passes a line
pub pass_at : (list : ConfigKey) (line : ℕ → Members → Result (Unit {0}) Refusal) (at : ℕ) (values : List Value) (i : ℕ) (value : Value) (table : Members)
    → i < length values → value ≡ get_or values i value → table_in list (view value) ≡ Ok table
    → all_pass list line at (items_view (drop i values)) ≡ (line at table >>= λ _. all_pass list line (at + 1) (items_view (drop (i + 1) values)))
pass_at list line at values i value table within is it =
    pass_step list line at values i value within
    ∙ ap (λ (t : Result Members Refusal). t >>= line at >>= λ _. all_pass list line (at + 1) (items_view (drop (i + 1) values)))
    (its_table list values i value table is it)

pub groups_step : (values : List Value) (at : ℕ) (other : Value) → at < length values
    → many_groups_after at (items_view (drop at values)) ≡ (if has_many_groups (as_table (view (get_or values at other))) then Some at else many_groups_after (at + 1)
    (items_view (drop (at + 1) values)))
groups_step values at other within = ap (many_groups_after at) (items_view-drop values at other within)

pub groups_end : (values : List Value) (at : ℕ) → length values ≤ at → many_groups_after at (items_view (drop at values)) ≡ None
groups_end values at past = ap (λ (list : List Value). many_groups_after at (items_view list)) (drop_all at values past)

-- items are counted as values
pub count_is : (values : List Value) → count_items (items_view values) ≡ length values
count_is [] = refl
count_is (value ∷ values) = omega (arith, count_is values)
