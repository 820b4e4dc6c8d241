use Rattle.std.proofs.Common.{◌≡◌, take}
use Rattle.sip_message_fields.proofs.view_lookups.views_of.Given as goal

abbrev pub invariant-loop-field : goal.invariant-loop-field
invariant-loop-field l = l.views ≡ take l.field-index l.fields
