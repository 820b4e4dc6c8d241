use Rattle.std.proofs.Common.{◌≡◌, map, take}
use Rattle.sip_message_fields.specs.KeptField.{field_kept}
use Rattle.sip_message_fields.proofs.store.fields_in.Given as goal

abbrev pub invariant-loop-kept : goal.invariant-loop-kept
invariant-loop-kept l = l.fields ≡ map (field_kept l.bytes) (take l.kept-index l.list)
