-- Fields by what is written of them.
use Rattle.std.specs.Prelude.{ℕ, List}
use Rattle.sip_message_fields.specs.declared.field.Field.{Field}
use Rattle.sip_message_fields.specs.FieldName.{name_of}

-- a field by its written name and its value (RFC 3261 7.3.1)
abbrev pub seen_field : List ℕ → List ℕ → Field
seen_field name value = record { name = name_of name; value = value }
