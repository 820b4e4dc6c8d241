use Rattle.std.proofs.Common.{◌≡◌, drop}
use Rattle.sip_location.specs.Registration.{after_contacts}
use Rattle.sip_location.proofs.edits.apply_contacts.Given as goal

-- what the contacts that are left make of the bindings is what all make of them
abbrev pub invariant-loop-contact : goal.invariant-loop-contact
invariant-loop-contact l = after_contacts l.request l.now (drop l.contact-index l.request.contacts) l.bindings
    ≡ after_contacts l.request l.now l.request.contacts l.fn.bindings
