use Rattle.std.proofs.Common.{◌≡◌, ◌++◌, cond, drop}
use Rattle.sip_message_fields.specs.Values.{without_first}
use Rattle.sip_edit.proofs.own_via.without_first.Given as goal

-- the fields so far, and what stays of the rest
abbrev pub invariant-loop-field : goal.invariant-loop-field
invariant-loop-field l = l.views ++ cond l.is_found (drop l.field-index l.fields) (without_first l.name (drop l.field-index l.fields)) ≡ without_first l.name l.fields
