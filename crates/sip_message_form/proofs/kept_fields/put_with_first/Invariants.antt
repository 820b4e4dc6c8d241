use Rattle.std.proofs.Common.{◌≡◌, ◌++◌, drop, map, flat_map}
use Rattle.sip_message_fields.specs.KeptField.{field_kept}
use Rattle.sip_message_fields.specs.Named.{all_named}
use Rattle.sip_message_fields.specs.Values.{with_first}
use Rattle.sip_message_form.specs.Text.{field_text}
use Rattle.sip_message_form.proofs.KeptFields.{edited_if}
use Rattle.sip_message_form.proofs.kept_fields.put_with_first.Given as goal

-- the text so far, and what the rest adds
abbrev pub invariant-loop-kept : goal.invariant-loop-kept
invariant-loop-kept l =
    l.out ++ flat_map field_text (all_named l.name (edited_if l.is_first l.name l.value (map (field_kept l.store) (drop l.kept-index l.list))))
    ≡ l.fn.out ++ flat_map field_text (all_named l.name (with_first l.name l.value (map (field_kept l.store) l.list)))
