use Rattle.std.proofs.Common.{◌-◌, ◌^◌, length, min, ap, ◌∙◌}
use Rattle.sip_message_fields.specs.declared.field.Field.{Field}
use Rattle.sip_message_form.specs.Text.{field_text}
use Rattle.sip_message_form.proofs.Longer.{too_long}
use Rattle.sip_message_form.proofs.view_length.fields_length.Goals as goal

pub returns-in_default : goal.returns-in_default
returns-in_default c =
    too_long field_text c.args.fields.now c.loop-field.field-index c.loop-field.length c.field_length.result _ c.loop-field-test.true c.loop-field.invariant
    (c.field_length.ensures ∙ ap (λ (f : Field). min (length (field_text f)) (2 ^ 64 - 1)) c.field-item.is)
    c.in_default.ensures
