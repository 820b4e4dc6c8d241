-- How many values a field has.
use Rattle.std.proofs.Common.{◌≡◌, List, length, sym, ◌∙◌}
use Rattle.std.specs.Prelude.{count_by}
use Rattle.std.proofs.lemmas.List.{length-map}
use Rattle.std.proofs.lemmas.List.Sums.{length-filter}
use Rattle.sip_message_fields.specs.declared.field_name.FieldName.{FieldName}
use Rattle.sip_message_fields.specs.declared.field.Field.{Field}
use Rattle.sip_message_fields.specs.FieldName.{is_same_name}
use Rattle.sip_message_fields.specs.Named.{all_named}
use Rattle.sip_message_fields.specs.Values.{values_of}

pub count_values : (name : FieldName) (fields : List Field) → count_by (λ f. is_same_name f.name name) fields ≡ length (values_of name fields)
count_values name fields = sym (length-map (all_named name fields) (λ f. f.value) ∙ length-filter (λ f. is_same_name f.name name) fields)
