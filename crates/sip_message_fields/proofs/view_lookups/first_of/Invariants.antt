use Rattle.std.proofs.Common.{◌≡◌, drop}
use Rattle.sip_message_fields.specs.Named.{first_named}
use Rattle.sip_message_fields.proofs.view_lookups.first_of.Given as goal

abbrev pub invariant-loop-field : goal.invariant-loop-field
invariant-loop-field l = first_named l.name (drop l.field-index l.fields) ≡ first_named l.name l.fields
