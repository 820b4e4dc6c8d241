use Rattle.std.proofs.Common.{◌≡◌, drop}
use Rattle.sip_message_fields.specs.Values.{values_of}
use Rattle.sipd_status.specs.GivenName.{first_name}
use Rattle.sipd_status.proofs.giver.first_name.Given as goal

-- the first of those that are left
abbrev pub invariant-loop-field : goal.invariant-loop-field
invariant-loop-field l = first_name (values_of l.name (drop l.field-index l.fields)) ≡ first_name (values_of l.name l.fields)
