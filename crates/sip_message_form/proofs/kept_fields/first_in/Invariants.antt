use Rattle.std.proofs.Common.{◌≡◌, drop, map}
use Rattle.sip_message_fields.specs.KeptField.{field_kept}
use Rattle.sip_message_fields.specs.Named.{first_named}
use Rattle.sip_message_form.proofs.kept_fields.first_in.Given as goal

-- none so far has it
abbrev pub invariant-loop-kept : goal.invariant-loop-kept
invariant-loop-kept l = first_named l.name (map (field_kept l.store) (drop l.kept-index l.list)) ≡ first_named l.name (map (field_kept l.store) l.list)
