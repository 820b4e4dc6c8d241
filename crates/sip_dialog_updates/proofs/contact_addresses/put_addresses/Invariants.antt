use Rattle.std.proofs.Common.{◌≡◌, ◌++◌, drop}
use Rattle.sip_hops.specs.HostAddress.{address_of}
use Rattle.sip_dialog.specs.Addresses.{addresses_in}
use Rattle.sip_dialog_updates.proofs.contact_addresses.put_addresses.Given as goal

-- the addresses so far, and those of the fields that are left
abbrev pub invariant-loop-field : goal.invariant-loop-field
invariant-loop-field l =
    l.out ++ addresses_in (address_of l.hops.addresses) (drop l.field-index l.fields) ≡ l.fn.out ++ addresses_in (address_of l.hops.addresses) l.fields
