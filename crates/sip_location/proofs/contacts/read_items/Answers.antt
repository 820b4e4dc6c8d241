use Rattle.std.proofs.Common.{[]}
use Rattle.sip_header.specs.ContactItem.{contact_of}
use Rattle.sip_location.proofs.Values.{next}
use Rattle.sip_location.proofs.contacts.read_items.Goals as goal

pub loop-value-preserved : goal.loop-value-preserved
loop-value-preserved c =
    rw (next contact_of c.args.values.now c.loop-value.value-index (record { ref_ptr = (0, 0); now = [] }) c.loop-value-test.true, ← c.loop-value.invariant)
    c.in_ok-put_contact.ensures
