use Rattle.std.proofs.Common.{◌≡◌, ◌++◌, drop}
use Rattle.std.specs.List.{flat_map}
use Rattle.sip_message_form.specs.Text.{field_text}
use Rattle.sip_edit.specs.Lowering.{fields_on}
use Rattle.sip_edit.proofs.tail_text.put_onward.Given as goal

-- the text so far, and what becomes of the rest
abbrev pub invariant-loop-field : goal.invariant-loop-field
invariant-loop-field l =
    l.out ++ flat_map field_text (fields_on l.hops l.routes l.realm (drop l.field-index l.fields)) ≡ l.fn.out
    ++ flat_map field_text (fields_on l.fn.hops l.fn.routes l.realm l.fields)
