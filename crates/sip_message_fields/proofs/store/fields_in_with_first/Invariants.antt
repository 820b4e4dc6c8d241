use Rattle.std.proofs.Common.{◌≡◌, ◌++◌, cond, drop, map}
use Rattle.sip_message_fields.specs.Values.{with_first}
use Rattle.sip_message_fields.specs.KeptField.{field_kept}
use Rattle.sip_message_fields.proofs.store.fields_in_with_first.Given as goal

-- the fields so far, and what becomes of the rest
abbrev pub invariant-loop-kept : goal.invariant-loop-kept
invariant-loop-kept l =
    l.fields ++ cond l.is_edited (map (field_kept l.bytes) (drop l.kept-index l.list)) (with_first l.name l.value (map (field_kept l.bytes) (drop l.kept-index l.list)))
    ≡ with_first l.name l.value (map (field_kept l.bytes) l.list)
