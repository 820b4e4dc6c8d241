-- Fields that only some responses have.
use Rattle.std.specs.Prelude.{ℕ, List, ◌++◌, decimal, codes}
use Rattle.sip_message_fields.specs.declared.field_name.FieldName.TheVariants as Name
use Rattle.sip_message_fields.specs.declared.field.Field.{Field}
use Rattle.sip_route.specs.declared.own.Own.{Own}

-- the rule that a 403 is by (RFC 3261 20.43, in this project's profile)
abbrev pub denial_warning : Own → ℕ → Field
denial_warning own rule = record { name = Name.Warning; value = codes "399 " ++ own.host ++ codes " \"policy rule " ++ decimal rule ++ codes "\"" }

-- the shortest interval, in a 423 (RFC 3261 10.3 step 7, 20.23)
abbrev pub min_expires : Field
min_expires = record { name = Name.MinExpires; value = codes "60" }

-- the extensions that a request needs and that aren't known, in a 420 (RFC 3261 8.2.2.3, 20.40)
abbrev pub unsupported_field : List ℕ → Field
unsupported_field items = record { name = Name.Unsupported; value = items }
