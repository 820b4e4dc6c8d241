-- The one value of a field, as it is found while the fields are passed over.
use Rattle.std.proofs.Common.{◌≡◌, ℕ, ◌+◌, ◌<◌, Bool, true, false, cond, List, [], ◌∷◌, ◌++◌, length, map, get_or, take, refl, sym, ap, ◌∙◌, append-nil}
use Rattle.std.proofs.lemmas.List.{map-append, take_more}
use Rattle.std.proofs.lemmas.List.Elements.{filter-append}
use Rattle.sip_message_form.specs.fields.declared.field_name.FieldName.{FieldName}
use Rattle.sip_message_form.specs.fields.declared.field.Field.{Field}
use Rattle.sip_message_form.specs.fields.FieldName.{is_same_name}
use Rattle.sip_message_form.specs.fields.Values.{values_of}
use Rattle.sip_header.specs.declared.core_values.Found.{Found}
use Rattle.sip_header.specs.CoreFields.{the_one}
use Rattle.sip_header.specs.Found.{found_of, and_value, value_in}

and_is : (values : List (List ℕ)) (value : List ℕ) → found_of (values ++ value ∷ []) ≡ and_value (found_of values) value
and_is [] value = refl
and_is (first ∷ []) value = refl
and_is (first ∷ next ∷ others) value = refl

by_test : (t : Bool) (values : List (List ℕ)) (field : Field) → found_of (values ++ map (λ (f : Field). f.value) (cond t (field ∷ []) []))
    ≡ cond t (and_value (found_of values) field.value) (found_of values)
by_test true values field = and_is values field.value
by_test false values field = ap found_of (simp append-nil)

pub and_field : (name : FieldName) (fields : List Field) (field : Field)
    → found_of (values_of name (fields ++ field ∷ [])) ≡ cond (is_same_name field.name name) (and_value (found_of (values_of name fields)) field.value)
    (found_of (values_of name fields))
and_field name fields field =
    let apart : values_of name (fields ++ field ∷ []) ≡ values_of name fields ++ map (λ (f : Field). f.value) (cond (is_same_name field.name name) (field ∷ []) []) =
    simp (filter-append, map-append) in
    ap found_of apart ∙ by_test (is_same_name field.name name) (values_of name fields) field

pub value_is : (name : FieldName) (values : List (List ℕ)) → value_in name (found_of values) ≡ the_one name values
value_is name [] = refl
value_is name (value ∷ []) = refl
value_is name (value ∷ next ∷ others) = refl

pub field_next : (name : FieldName) (fields : List Field) (i : ℕ) (field : Field) (found next : Found) → i < length fields → field ≡ get_or fields i field
    → found ≡ found_of (values_of name (take i fields)) → next ≡ cond (is_same_name field.name name) (and_value found field.value) found
    → next ≡ found_of (values_of name (take (i + 1) fields))
field_next name fields i field found next lt is so_far here =
    let items : take (i + 1) fields ≡ take i fields ++ field ∷ [] = take_more fields i field lt ∙ ap (λ (w : Field). take i fields ++ w ∷ []) (sym is) in
    here ∙ ap (λ (w : Found). cond (is_same_name field.name name) (and_value w field.value) w) so_far
    ∙ sym (and_field name (take i fields) field) ∙ ap (λ (w : List Field). found_of (values_of name w)) (sym items)

-- a field of another name
pub other_next : (name : FieldName) (fields : List Field) (i : ℕ) (field : Field) (found : Found) → i < length fields → field ≡ get_or fields i field
    → is_same_name field.name name ≡ false → found ≡ found_of (values_of name (take i fields)) → found ≡ found_of (values_of name (take (i + 1) fields))
other_next name fields i field found lt is differs so_far =
    field_next name fields i field found found lt is so_far (sym (ap (λ (t : Bool). cond t (and_value found field.value) found) differs))
