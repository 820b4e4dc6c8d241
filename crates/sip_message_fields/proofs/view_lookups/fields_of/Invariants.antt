use Rattle.std.proofs.Common.{◌≡◌, take}
use Rattle.sip_message_fields.proofs.view_lookups.fields_of.Given as goal

abbrev pub invariant-loop-field : goal.invariant-loop-field
invariant-loop-field l = l.copies ≡ take l.field-index l.fields
