use Rattle.std.proofs.Common.{◌≡◌, ◌++◌, cond, drop}
use Rattle.sip_message_fields.specs.Values.{with_first}
use Rattle.sip_message_fields.proofs.view_edits.with_first.Given as goal

-- the fields so far, and what becomes of the rest
abbrev pub invariant-loop-field : goal.invariant-loop-field
invariant-loop-field l = l.views ++ cond l.is_edited (drop l.field-index l.fields) (with_first l.name l.value (drop l.field-index l.fields))
    ≡ with_first l.name l.value l.fields
