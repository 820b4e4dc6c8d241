use Rattle.std.proofs.Common.{◌≡◌, drop, map}
use Rattle.sip_message_fields.specs.declared.field_name.FieldName.TheVariants as Name
use Rattle.sip_message_fields.specs.KeptField.{field_kept}
use Rattle.sip_message_fields.specs.Values.{first_value}
use Rattle.sip_dialog_updates.proofs.naming.first_to.Given as goal

abbrev pub invariant-loop-kept : goal.invariant-loop-kept
invariant-loop-kept l = first_value Name.To (map (field_kept l.store) (drop l.kept-index l.list)) ≡ first_value Name.To (map (field_kept l.store) l.list)
