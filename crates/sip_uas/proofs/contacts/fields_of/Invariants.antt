use Rattle.std.proofs.Common.{◌≡◌, ◌++◌, length, map}
use Rattle.sip_forwarding.specs.steps_model.Effect.{contact_field}
use Rattle.sip_uas.proofs.contacts.fields_of.Given as goal

-- the fields so far, in front of those of the bindings that are left
abbrev pub invariant-loop-binding : goal.invariant-loop-binding
invariant-loop-binding l = l.fields ++ map (contact_field l.now) l.left ≡ map (contact_field l.now) l.fn.bindings

abbrev pub decreases-loop-binding : goal.decreases-loop-binding
decreases-loop-binding l = length l.left
