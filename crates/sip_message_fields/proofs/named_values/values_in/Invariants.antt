use Rattle.std.proofs.Common.{◌≡◌, map, take}
use Rattle.sip_message_fields.specs.Values.{values_of}
use Rattle.sip_message_fields.proofs.named_values.values_in.Given as goal

abbrev pub invariant-loop-field : goal.invariant-loop-field
invariant-loop-field l = map (λ value. value.now) l.found.items ≡ values_of l.name (take l.field-index l.fields)
