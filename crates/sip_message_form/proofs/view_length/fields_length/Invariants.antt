use Rattle.std.proofs.Common.{◌≡◌, min, ◌-◌, ◌^◌, length, take}
use Rattle.std.specs.List.{flat_map}
use Rattle.sip_message_form.specs.Text.{field_text}
use Rattle.sip_message_form.proofs.view_length.fields_length.Given as goal

abbrev pub invariant-loop-field : goal.invariant-loop-field
invariant-loop-field l = l.length ≡ min (length (flat_map field_text (take l.field-index l.fields))) (2 ^ 64 - 1)
