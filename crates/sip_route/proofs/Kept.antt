-- The fields that stay where Routes are skipped and kept by their number are those that are left of a request.
use Rattle.std.proofs.Common.{◌≡◌, ℕ, zero, suc, ◌-◌, Bool, true, false, cond, ◌&&◌, ◌==◌, List, [], ◌∷◌, ◌++◌, length, map, refl, sym, ap, ◌∙◌, append-nil, arith}
use Rattle.std.proofs.lemmas.Bool.Decides.{nat_tests}
use Rattle.std.specs.Prelude.{reverse, is_some, filter, nat_lt}
use Rattle.std.proofs.lemmas.List.{reverse-append, reverse-reverse, length-reverse}
use Rattle.sip_message_fields.specs.declared.field.Field.{Field}
use Rattle.sip_message_fields.specs.declared.field_name.FieldName.TheVariants as Name
use Rattle.sip_message_fields.specs.FieldName.{is_same_name}
use Rattle.sip_message_fields.specs.Values.{values_of, without_first, without_last}
use Rattle.sip_route.specs.declared.own.Own.{Own}
use Rattle.sip_route.specs.declared.routes_kept.RoutesKept.{RoutesKept}
use Rattle.sip_route.specs.Way.{restored_route, begins_with_own, fields_left, without_restored}
use Rattle.sip_route.specs.RoutesKept.{behind_route, fields_kept, others_of, kept_of}
use Rattle.sip_route.proofs.Left.{turned, restored_off}

abbrev is_route : Field → Bool
is_route field = is_same_name field.name Name.Route

-- how many of some fields are Routes
abbrev routes_in : List Field → ℕ
routes_in fields = length (values_of Name.Route fields)

abbrev kept : ℕ → ℕ → List Field → List Field
kept skipped many fields = fields_kept (record { skipped = skipped; kept = many }) fields

abbrev first_off : List Field → List Field
first_off fields = without_first Name.Route fields

abbrev last_off : List Field → List Field
last_off fields = without_last Name.Route fields

less_one : (n : ℕ) → suc n - 1 ≡ n
less_one n = omega arith

less_none : (n : ℕ) → n - 0 ≡ n
less_none n = omega arith

is_more : (n : ℕ) → nat_lt 0 (suc n) ≡ true
is_more n = grind (arith, nat_tests)

-- ---- a field in front, by whether it is a Route

abbrev kept_by : Bool → ℕ → ℕ → Field → List Field → List Field
kept_by t skipped many field fields =
    let r : RoutesKept = record { skipped = skipped; kept = many } in
    let next : RoutesKept = cond t (behind_route r) r in
    cond (cond t (skipped == 0 && nat_lt 0 many) true) (field ∷ fields_kept next fields) (fields_kept next fields)

abbrev count_by_test : Bool → List Field → ℕ
count_by_test t fields = cond t (suc (routes_in fields)) (routes_in fields)

counted : (field : Field) (fields : List Field) → routes_in (field ∷ fields) ≡ count_by_test (is_route field) fields
counted field fields = by_test (is_route field)
  where
    by_test : (t : Bool) → length (map (λ (f : Field). f.value) (cond t (field ∷ filter is_route fields) (filter is_route fields))) ≡ count_by_test t fields
    by_test true = refl
    by_test false = refl

-- ---- all stay

all_by : (t : Bool) (field : Field) (fields : List Field) → kept 0 (routes_in fields) fields ≡ fields → kept_by t 0 (count_by_test t fields) field fields ≡ field ∷ fields
all_by true field fields rest = rw (is_more (routes_in fields), less_one (routes_in fields)) (ap (λ (w : List Field). field ∷ w) rest)
all_by false field fields rest = ap (λ (w : List Field). field ∷ w) rest

all_stay : (fields : List Field) → kept 0 (routes_in fields) fields ≡ fields
all_stay [] = refl
all_stay (field ∷ fields) = ap (λ (n : ℕ). kept 0 n (field ∷ fields)) (counted field fields) ∙ all_by (is_route field) field fields (all_stay fields)

-- ---- the first is skipped

first_by : (t : Bool) (field : Field) (fields : List Field) → kept 1 (routes_in fields - 1) fields ≡ first_off fields
    → kept_by t 1 (count_by_test t fields - 1) field fields ≡ cond t fields (field ∷ first_off fields)
first_by true field fields rest = rw (less_one (routes_in fields)) (all_stay fields)
first_by false field fields rest = ap (λ (w : List Field). field ∷ w) rest

first_skipped : (fields : List Field) → kept 1 (routes_in fields - 1) fields ≡ first_off fields
first_skipped [] = refl
first_skipped (field ∷ fields) = ap (λ (n : ℕ). kept 1 (n - 1) (field ∷ fields)) (counted field fields) ∙ first_by (is_route field) field fields (first_skipped fields)

-- ---- the last one

-- where there is no Route none is taken off
none_off_by : (t : Bool) (field : Field) (fields : List Field) → count_by_test t fields ≡ 0 → (routes_in fields ≡ 0 → first_off fields ≡ fields)
    → cond t fields (field ∷ first_off fields) ≡ field ∷ fields
none_off_by true field fields none rest = absurd cc
none_off_by false field fields none rest = ap (λ (w : List Field). field ∷ w) (rest none)

none_off : (fields : List Field) → routes_in fields ≡ 0 → first_off fields ≡ fields
none_off [] e = refl
none_off (field ∷ fields) e = none_off_by (is_route field) field fields (sym (counted field fields) ∙ e) (none_off fields)

-- the first of two lists: of the front if it has one, else of the back
off_by : (t : Bool) (n : ℕ) (field : Field) (fields others : List Field) → routes_in fields ≡ n
    → first_off (fields ++ others) ≡ cond (nat_lt 0 n) (first_off fields ++ others) (fields ++ first_off others)
    → cond t (fields ++ others) (field ∷ first_off (fields ++ others)) ≡ cond (nat_lt 0 (cond t (suc n) n)) (cond t fields (field ∷ first_off fields) ++ others)
    (field ∷ (fields ++ first_off others))
off_by true n field fields others is rest = rw (is_more n) refl
off_by false zero field fields others is rest = ap (λ (w : List Field). field ∷ w) rest
off_by false (suc n) field fields others is rest = rw (is_more n) (ap (λ (w : List Field). field ∷ w) (rw (is_more n) at rest))

off_joined : (fields others : List Field) → first_off (fields ++ others) ≡ cond (nat_lt 0 (routes_in fields)) (first_off fields ++ others) (fields ++ first_off others)
off_joined [] others = refl
off_joined (field ∷ fields) others =
    off_by (is_route field) (routes_in fields) field fields others refl (off_joined fields others)
    ∙ ap (λ (n : ℕ). cond (nat_lt 0 n) (first_off (field ∷ fields) ++ others) (field ∷ (fields ++ first_off others))) (sym (counted field fields))

-- the last of a field and others
last_front : (n : ℕ) (field : Field) (fields : List Field) → routes_in fields ≡ n → last_off (field ∷ fields)
    ≡ cond (nat_lt 0 n) (field ∷ last_off fields) (cond (is_route field) fields (field ∷ fields))
last_front n field fields is =
    ap (λ (w : List Field). reverse (first_off w)) (reverse-append (field ∷ []) fields)
    ∙ ap reverse (off_joined (reverse fields) (field ∷ []))
    ∙ ap (λ (m : ℕ). reverse (cond (nat_lt 0 m) (first_off (reverse fields) ++ field ∷ []) (reverse fields ++ first_off (field ∷ []))))
    (ap length (turned Name.Route fields) ∙ length-reverse (values_of Name.Route fields) ∙ is)
    ∙ by_number n
  where
    by_test : (t : Bool) → reverse (reverse fields ++ cond t [] (field ∷ [])) ≡ cond t fields (field ∷ fields)
    by_test true = ap reverse (append-nil (reverse fields)) ∙ reverse-reverse fields
    by_test false = reverse-append (reverse fields) (field ∷ []) ∙ ap (λ (w : List Field). field ∷ w) (reverse-reverse fields)

    by_number : (m : ℕ) → reverse (cond (nat_lt 0 m) (first_off (reverse fields) ++ field ∷ []) (reverse fields ++ first_off (field ∷ [])))
        ≡ cond (nat_lt 0 m) (field ∷ last_off fields) (cond (is_route field) fields (field ∷ fields))
    by_number zero = by_test (is_route field)
    by_number (suc m) = rw (is_more m) (reverse-append (first_off (reverse fields)) (field ∷ []))

last_by : (t : Bool) (n : ℕ) (field : Field) (fields : List Field) → routes_in fields ≡ n → kept 0 (n - 1) fields ≡ last_off fields
    → kept_by t 0 (cond t (suc n) n - 1) field fields ≡ cond (nat_lt 0 n) (field ∷ last_off fields) (cond t fields (field ∷ fields))
last_by true zero field fields is rest = ap (λ (n : ℕ). kept 0 n fields) (sym is) ∙ all_stay fields
last_by true (suc n) field fields is rest = rw (less_one (suc n), is_more n) (ap (λ (w : List Field). field ∷ w) rest)
last_by false zero field fields is rest = ap (λ (w : List Field). field ∷ w) (ap (λ (n : ℕ). kept 0 n fields) (sym is) ∙ all_stay fields)
last_by false (suc n) field fields is rest = rw (is_more n) (ap (λ (w : List Field). field ∷ w) rest)

last_dropped : (fields : List Field) → kept 0 (routes_in fields - 1) fields ≡ last_off fields
last_dropped [] = refl
last_dropped (field ∷ fields) =
    ap (λ (n : ℕ). kept 0 (n - 1) (field ∷ fields)) (counted field fields)
    ∙ last_by (is_route field) (routes_in fields) field fields refl (last_dropped fields)
    ∙ sym (last_front (routes_in fields) field fields refl)

-- ---- both

-- where there is no Route none is taken off at the end
none_last : (fields : List Field) → routes_in fields ≡ 0 → last_off fields ≡ fields
none_last fields none = sym (last_dropped fields) ∙ ap (λ (n : ℕ). kept 0 (n - 1) fields) none ∙ ap (λ (n : ℕ). kept 0 n fields) (sym none) ∙ all_stay fields

both_by : (t : Bool) (n : ℕ) (field : Field) (fields : List Field) → is_route field ≡ t → routes_in fields ≡ n → kept 1 ((n - 1) - 1) fields ≡ first_off (last_off fields)
    → kept_by t 1 ((cond t (suc n) n - 1) - 1) field fields ≡ first_off (cond (nat_lt 0 n) (field ∷ last_off fields) (cond t fields (field ∷ fields)))
both_by true zero field fields at is rest = ap (λ (n : ℕ). kept 0 n fields) (sym is) ∙ all_stay fields ∙ sym (none_off fields is)
both_by true (suc n) field fields at is rest =
    ap (λ (m : ℕ). kept 0 m fields) (ap (λ (m : ℕ). m - 1) (less_one (suc n)) ∙ ap (λ (m : ℕ). m - 1) (sym is)) ∙ last_dropped fields
    ∙ ap (λ (t : Bool). cond t (last_off fields) (field ∷ first_off (last_off fields))) (sym at)
    ∙ ap (λ (t : Bool). first_off (cond t (field ∷ last_off fields) fields)) (sym (is_more n))
both_by false zero field fields at is rest =
    ap (λ (w : List Field). field ∷ w) (rest ∙ ap first_off (none_last fields is))
    ∙ ap (λ (t : Bool). cond t fields (field ∷ first_off fields)) (sym at)
both_by false (suc n) field fields at is rest =
    ap (λ (w : List Field). field ∷ w) rest
    ∙ ap (λ (t : Bool). cond t (last_off fields) (field ∷ first_off (last_off fields))) (sym at)
    ∙ ap (λ (t : Bool). first_off (cond t (field ∷ last_off fields) (field ∷ fields))) (sym (is_more n))

both_dropped : (fields : List Field) → kept 1 ((routes_in fields - 1) - 1) fields ≡ first_off (last_off fields)
both_dropped [] = refl
both_dropped (field ∷ fields) =
    ap (λ (n : ℕ). kept 1 ((n - 1) - 1) (field ∷ fields)) (counted field fields)
    ∙ both_by (is_route field) (routes_in fields) field fields refl refl (both_dropped fields)
    ∙ ap first_off (sym (last_front (routes_in fields) field fields refl))

-- ---- of a request

by_both : (restored own_first : Bool) (fields : List Field) →
    kept (cond own_first 1 0) ((routes_in fields - cond restored 1 0) - cond own_first 1 0) fields
    ≡ cond own_first (first_off (cond restored (last_off fields) fields)) (cond restored (last_off fields) fields)
by_both true true fields = both_dropped fields
by_both true false fields = rw (less_none (routes_in fields - 1)) (last_dropped fields)
by_both false true fields = rw (less_none (routes_in fields)) (first_skipped fields)
by_both false false fields = rw (less_none (routes_in fields), less_none (routes_in fields)) (all_stay fields)

-- what is kept by the numbers of the Routes is what is left of the fields
pub kept_is : (own : Own) (uri : List ℕ) (fields : List Field) →
    fields_kept (kept_of own (is_some (restored_route own uri fields)) (values_of Name.Route fields)) fields ≡ fields_left own uri fields
kept_is own uri fields =
    by_both (is_some (restored_route own uri fields)) (begins_with_own own (others_of (is_some (restored_route own uri fields)) (values_of Name.Route fields))) fields
    ∙ ap (λ (w : List (List ℕ)). cond (begins_with_own own w) (first_off (without_restored own uri fields)) (without_restored own uri fields))
    (sym (restored_off own uri fields))
