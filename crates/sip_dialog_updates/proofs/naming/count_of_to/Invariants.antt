use Rattle.std.proofs.Common.{◌≡◌, ◌≤◌, take, map}
use Rattle.std.specs.Prelude.{count_by}
use Rattle.sip_message_fields.specs.declared.field_name.FieldName.TheVariants as Name
use Rattle.sip_message_fields.specs.FieldName.{is_same_name}
use Rattle.sip_message_fields.specs.KeptField.{field_kept}
use Rattle.sip_dialog_updates.proofs.naming.count_of_to.Given as goal

abbrev pub invariant-loop-kept : goal.invariant-loop-kept
invariant-loop-kept l =
    (l.count ≡ count_by (λ field. is_same_name field.name Name.To) (map (field_kept l.store) (take l.kept-index l.list))) × (l.count ≤ l.kept-index)
