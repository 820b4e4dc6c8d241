use Rattle.std.proofs.Common.{◌≡◌, take}
use Rattle.sip_message_form.specs.fields.declared.field_name.FieldName.TheVariants as Name
use Rattle.sip_message_form.specs.fields.Values.{values_of}
use Rattle.sip_header.specs.Found.{found_of}
use Rattle.sip_header.proofs.core_values.core_values.Given as goal

abbrev pub invariant-loop-field : goal.invariant-loop-field
invariant-loop-field l = (l.values.from ≡ found_of (values_of Name.From (take l.field-index l.fields)))
    × (l.values.to ≡ found_of (values_of Name.To (take l.field-index l.fields)))
    × (l.values.call_id ≡ found_of (values_of Name.CallId (take l.field-index l.fields)))
    × (l.values.cseq ≡ found_of (values_of Name.CSeq (take l.field-index l.fields)))
