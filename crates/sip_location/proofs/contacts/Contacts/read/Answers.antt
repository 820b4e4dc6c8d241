use Rattle.std.proofs.Common.{sym, subst, map}
use Rattle.sip_location.specs.ReadContacts.{AreValidContacts}
use Rattle.sip_location.proofs.Reading.{valid_contacts}
use Rattle.sip_location.proofs.contacts.Contacts.read.Goals as goal

pub invariant_of-result : goal.invariant_of-result
invariant_of-result c = subst AreValidContacts (sym c.in_ok-items.ensures) (valid_contacts (map (λ value. value.now) c.args.values.now))
