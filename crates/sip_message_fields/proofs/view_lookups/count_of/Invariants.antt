use Rattle.std.proofs.Common.{◌≡◌, ◌≤◌, take}
use Rattle.std.specs.Prelude.{count_by}
use Rattle.sip_message_fields.specs.FieldName.{is_same_name}
use Rattle.sip_message_fields.proofs.view_lookups.count_of.Given as goal

abbrev pub invariant-loop-field : goal.invariant-loop-field
invariant-loop-field l = (l.count ≡ count_by (λ field. is_same_name field.name l.name) (take l.field-index l.fields)) × (l.count ≤ l.field-index)
