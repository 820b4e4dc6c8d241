use Rattle.std.proofs.Common.{◌≡◌, drop}
use Rattle.sip_message_fields.specs.Values.{values_of}
use Rattle.sipd_sources.specs.Claims.{given_among}
use Rattle.sipd_sources.proofs.claims.given_among.Given as goal

-- the first of those that are left
abbrev pub invariant-loop-field : goal.invariant-loop-field
invariant-loop-field l = given_among l.realm (values_of l.name (drop l.field-index l.fields)) ≡ given_among l.realm (values_of l.name l.fields)
