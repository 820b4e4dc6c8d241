-- The values of a field among the fields of a message, by its name (RFC 3261 7.3.1).
use Rattle.std.specs.Prelude.{ℕ, List, [], ◌∷◌, map, reverse, if◌then◌else◌, Option, option_map}
use Rattle.sip_message_fields.specs.declared.field_name.FieldName.{FieldName}
use Rattle.sip_message_fields.specs.declared.field.Field.{Field}
use Rattle.sip_message_fields.specs.FieldName.{is_same_name}
use Rattle.sip_message_fields.specs.Named.{first_named, all_named}

-- all values of a field, in order
abbrev pub values_of : FieldName → List Field → List (List ℕ)
values_of name fields = map (λ field. field.value) (all_named name fields)

-- the first value of a field
abbrev pub first_value : FieldName → List Field → Option (List ℕ)
first_value name fields = option_map (λ field. field.value) (first_named name fields)

-- without the first field of a name
abbrev pub without_first : FieldName → List Field → List Field
without_first name [] = []
without_first name (field ∷ fields) = if is_same_name field.name name then fields else field ∷ without_first name fields

-- without the last field of a name
abbrev pub without_last : FieldName → List Field → List Field
without_last name fields = reverse (without_first name (reverse fields))

-- fields of which the first of a name has another value
abbrev pub with_first : FieldName → List ℕ → List Field → List Field
with_first name value [] = []
with_first name value (field ∷ fields) =
    if is_same_name field.name name then record field { value = value } ∷ fields else field ∷ with_first name value fields
