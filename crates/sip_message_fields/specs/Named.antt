-- The fields of a name among the fields of a message.
use Rattle.std.specs.Prelude.{List, [], ◌∷◌, filter, Option, Some, None, if◌then◌else◌}
use Rattle.std.specs.Option.{option_to_list}
use Rattle.sip_message_fields.specs.declared.field_name.FieldName.{FieldName}
use Rattle.sip_message_fields.specs.declared.field.Field.{Field}
use Rattle.sip_message_fields.specs.FieldName.{is_same_name}

-- the first field of a name (RFC 3261 7.3.1)
abbrev pub first_named : FieldName → List Field → Option Field
first_named name [] = None
first_named name (field ∷ fields) = if is_same_name field.name name then Some field else first_named name fields

-- the fields of a name, in their order
abbrev pub all_named : FieldName → List Field → List Field
all_named name fields = filter (λ field. is_same_name field.name name) fields

-- the first field of a name as a list, as messages that are made here copy it (RFC 3261 8.2.6, 9.1, 17.1.1.3)
abbrev pub first_of : FieldName → List Field → List Field
first_of name fields = option_to_list (first_named name fields)
