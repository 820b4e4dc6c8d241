-- Fields of a name, the first of which is still to get another value or has got it.
use Rattle.std.proofs.Common.{◌≡◌, ℕ, Bool, true, false, cond, List, ◌∷◌, ◌++◌, ap, ◌∙◌, flat_map}
use Rattle.sip_message_fields.specs.declared.field_name.FieldName.{FieldName}
use Rattle.sip_message_fields.specs.declared.field.Field.{Field}
use Rattle.sip_message_fields.specs.FieldName.{is_same_name}
use Rattle.sip_message_fields.specs.Named.{all_named}
use Rattle.sip_message_fields.specs.Values.{with_first}
use Rattle.sip_message_form.specs.Text.{field_text}

abbrev pub edited_if : Bool → FieldName → List ℕ → List Field → List Field
edited_if is_first name value fields = cond is_first (with_first name value fields) fields

pub other_field : (is_first : Bool) (name : FieldName) (value : List ℕ) (field : Field) (fields : List Field) → is_same_name field.name name ≡ false →
    flat_map field_text (all_named name (edited_if is_first name value (field ∷ fields))) ≡ flat_map field_text (all_named name (edited_if is_first name value fields))
other_field true name value field fields is =
    ap (λ (t : Bool). flat_map field_text (all_named name (cond t (record field { value = value } ∷ fields) (field ∷ with_first name value fields)))) is
    ∙ ap (λ (t : Bool). flat_map field_text (cond t (field ∷ all_named name (with_first name value fields)) (all_named name (with_first name value fields)))) is
other_field false name value field fields is = ap (λ (t : Bool). flat_map field_text (cond t (field ∷ all_named name fields) (all_named name fields))) is

pub first_field : (name : FieldName) (value : List ℕ) (field : Field) (fields : List Field) → is_same_name field.name name ≡ true →
    flat_map field_text (all_named name (edited_if true name value (field ∷ fields))) ≡ field_text (record field { value = value })
    ++ flat_map field_text (all_named name (edited_if false name value fields))
first_field name value field fields is =
    ap (λ (t : Bool). flat_map field_text (all_named name (cond t (record field { value = value } ∷ fields) (field ∷ with_first name value fields)))) is
    ∙ ap (λ (t : Bool). flat_map field_text (cond t (record field { value = value } ∷ all_named name fields) (all_named name fields))) is

pub further_field : (name : FieldName) (value : List ℕ) (field : Field) (fields : List Field) → is_same_name field.name name ≡ true →
    flat_map field_text (all_named name (edited_if false name value (field ∷ fields))) ≡ field_text field
    ++ flat_map field_text (all_named name (edited_if false name value fields))
further_field name value field fields is = ap (λ (t : Bool). flat_map field_text (cond t (field ∷ all_named name fields) (all_named name fields))) is
