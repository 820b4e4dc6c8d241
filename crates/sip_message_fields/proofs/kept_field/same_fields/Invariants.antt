use Rattle.std.proofs.Common.{◌≡◌, take}
use Rattle.sip_message_fields.proofs.kept_field.same_fields.Given as goal

-- the fields so far are the same
abbrev pub invariant-loop-at : goal.invariant-loop-at
invariant-loop-at l = take l.at l.left ≡ take l.at l.right
