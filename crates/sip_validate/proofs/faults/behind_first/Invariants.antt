use Rattle.std.proofs.Common.{◌≡◌, drop}
use Rattle.sip_message_fields.specs.Values.{values_of}
use Rattle.sip_validate.proofs.faults.behind_first.Given as goal

-- those that are left have all the values
abbrev pub invariant-loop-index : goal.invariant-loop-index
invariant-loop-index l = values_of l.name (drop l.index l.fields) ≡ values_of l.name l.fields
