-- The first value of a field, by its values.
use Rattle.std.proofs.Common.{◌≡◌, ℕ, Bool, true, false, cond, List, [], ◌∷◌, Option, Some, None, refl}
use Rattle.sip_message_form.specs.fields.declared.field_name.FieldName.{FieldName}
use Rattle.sip_message_form.specs.fields.declared.field.Field.{Field}
use Rattle.sip_message_form.specs.fields.Values.{values_of, first_value}
use Rattle.std.specs.Prelude.{map, option_map}
use Rattle.sip_message_form.specs.fields.FieldName.{is_same_name}
use Rattle.sip_message_form.specs.fields.Named.{first_named, all_named}

abbrev pub first : List (List ℕ) → Option (List ℕ)
first [] = None
first (value ∷ values) = Some value

by_test : (t : Bool) (field : Field) (o : Option Field) (fields : List Field) → option_map (λ f. f.value) o ≡ first (map (λ f. f.value) fields)
    → option_map (λ f. f.value) (cond t (Some field) o) ≡ first (map (λ f. f.value) (cond t (field ∷ fields) fields))
by_test true field o fields e = refl
by_test false field o fields e = e

pub first_is : (name : FieldName) (fields : List Field) → first_value name fields ≡ first (values_of name fields)
first_is name [] = refl
first_is name (field ∷ fields) = by_test (is_same_name field.name name) field (first_named name fields) (all_named name fields) (first_is name fields)
