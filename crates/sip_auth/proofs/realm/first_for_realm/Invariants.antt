use Rattle.std.proofs.Common.{◌≡◌, drop}
use Rattle.sip_message_fields.specs.Values.{values_of}
use Rattle.sip_auth.specs.Proof.{first_for_realm}
use Rattle.sip_auth.proofs.realm.first_for_realm.Given as goal

-- the first of those that are left
abbrev pub invariant-loop-field : goal.invariant-loop-field
invariant-loop-field l = first_for_realm l.realm (values_of l.name (drop l.field-index l.fields)) ≡ first_for_realm l.realm (values_of l.name l.fields)
