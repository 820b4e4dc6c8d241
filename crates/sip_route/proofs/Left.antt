-- What is left of the values of Route, where fields are taken off.
use Rattle.std.proofs.Common.{◌≡◌, ℕ, Bool, true, false, cond, List, [], ◌∷◌, ◌++◌, map, refl, sym, ap, ◌∙◌}
use Rattle.std.specs.Prelude.{reverse, drop, is_some, filter}
use Rattle.std.proofs.lemmas.List.{map-append, reverse-append}
use Rattle.std.proofs.lemmas.List.Elements.{filter-append}
use Rattle.sip_message_fields.specs.declared.field.Field.{Field}
use Rattle.sip_message_fields.specs.declared.field_name.FieldName.{FieldName}
use Rattle.sip_message_fields.specs.declared.field_name.FieldName.TheVariants as Name
use Rattle.sip_message_fields.specs.FieldName.{is_same_name}
use Rattle.sip_message_fields.specs.Values.{values_of, without_first, without_last}
use Rattle.sip_route.specs.declared.own.Own.{Own}
use Rattle.sip_route.specs.declared.way.Way.{Way}
use Rattle.sip_route.specs.Way.{restored_route, begins_with_own, without_own_route, without_restored, uri_left, way_from}
use Rattle.sip_route.specs.Routes.{all_but_last, others_than, without_own, way_by}

-- ---- without the first, and without the last

by_name : (t : Bool) (name : FieldName) (field : Field) (fields : List Field) → is_same_name field.name name ≡ t
    → values_of name (without_first name fields) ≡ drop 1 (values_of name fields)
    → values_of name (cond t fields (field ∷ without_first name fields)) ≡ drop 1 (map (λ f. f.value)
    (cond t (field ∷ filter (λ f. is_same_name f.name name) fields) (filter (λ f. is_same_name f.name name) fields)))
by_name true name field fields is rest = refl
by_name false name field fields is rest = ap (λ t. map (λ (f : Field). f.value) (cond t (field ∷ filter (λ f. is_same_name f.name name) (without_first name fields))
    (filter (λ f. is_same_name f.name name) (without_first name fields)))) is ∙ rest

first_off : (name : FieldName) (fields : List Field) → values_of name (without_first name fields) ≡ drop 1 (values_of name fields)
first_off name [] = refl
first_off name (field ∷ fields) = by_name (is_same_name field.name name) name field fields refl (first_off name fields)

appended : (name : FieldName) (xs ys : List Field) → values_of name (xs ++ ys) ≡ values_of name xs ++ values_of name ys
appended name xs ys =
    ap (map (λ (f : Field). f.value)) (filter-append (λ f. is_same_name f.name name) xs ys)
    ∙ map-append (λ (f : Field). f.value) (filter (λ f. is_same_name f.name name) xs) (filter (λ f. is_same_name f.name name) ys)

turned_one : (name : FieldName) (field : Field) → values_of name (field ∷ []) ≡ reverse (values_of name (field ∷ []))
turned_one name field = by_test (is_same_name field.name name)
  where
    by_test : (t : Bool) → map (λ (f : Field). f.value) (cond t (field ∷ []) []) ≡ reverse (map (λ (f : Field). f.value) (cond t (field ∷ []) []))
    by_test true = refl
    by_test false = refl

pub turned : (name : FieldName) (fields : List Field) → values_of name (reverse fields) ≡ reverse (values_of name fields)
turned name [] = refl
turned name (field ∷ fields) =
    ap (values_of name) (reverse-append (field ∷ []) fields) ∙ appended name (reverse fields) (field ∷ [])
    ∙ ap (λ (w : List (List ℕ)). w ++ values_of name (field ∷ [])) (turned name fields)
    ∙ ap (λ (w : List (List ℕ)). reverse (values_of name fields) ++ w) (turned_one name field)
    ∙ sym (reverse-append (values_of name (field ∷ [])) (values_of name fields)) ∙ ap reverse (sym (appended name (field ∷ []) fields))

last_off : (name : FieldName) (fields : List Field) → values_of name (without_last name fields) ≡ all_but_last (values_of name fields)
last_off name fields =
    turned name (without_first name (reverse fields)) ∙ ap reverse (first_off name (reverse fields))
    ∙ ap (λ (w : List (List ℕ)). reverse (drop 1 w)) (turned name fields)

-- ---- the way

own_off : (own : Own) (fields : List Field) → values_of Name.Route (without_own_route own fields) ≡ without_own own (values_of Name.Route fields)
own_off own fields = by_test (begins_with_own own (values_of Name.Route fields))
  where
    by_test : (t : Bool) → values_of Name.Route (cond t (without_first Name.Route fields) fields)
        ≡ cond t (drop 1 (values_of Name.Route fields)) (values_of Name.Route fields)
    by_test true = first_off Name.Route fields
    by_test false = refl

pub restored_off : (own : Own) (uri : List ℕ) (fields : List Field) → values_of Name.Route (without_restored own uri fields)
    ≡ others_than (restored_route own uri fields) (values_of Name.Route fields)
restored_off own uri fields = by_test (is_some (restored_route own uri fields))
  where
    by_test : (t : Bool) → values_of Name.Route (cond t (without_last Name.Route fields) fields)
        ≡ cond t (all_but_last (values_of Name.Route fields)) (values_of Name.Route fields)
    by_test true = last_off Name.Route fields
    by_test false = refl

abbrev with_routes : List ℕ → List (List ℕ) → Way
with_routes uri routes = record { uri = uri; routes = routes }

-- the way of a request says nothing of its fields but the values of Route
pub way_is : (own : Own) (uri : List ℕ) (fields : List Field) → way_from own uri fields ≡ way_by own uri (values_of Name.Route fields)
way_is own uri fields =
    ap (with_routes (uri_left own uri fields)) (own_off own (without_restored own uri fields) ∙ ap (without_own own) (restored_off own uri fields))
