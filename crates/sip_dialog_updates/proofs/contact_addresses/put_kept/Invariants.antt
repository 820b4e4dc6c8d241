use Rattle.std.proofs.Common.{◌≡◌, ◌++◌, drop, map}
use Rattle.sip_hops.specs.HostAddress.{address_of}
use Rattle.sip_message_fields.specs.KeptField.{field_kept}
use Rattle.sip_dialog.specs.Addresses.{addresses_in}
use Rattle.sip_dialog_updates.proofs.contact_addresses.put_kept.Given as goal

-- the addresses so far, and those of the fields that are left
abbrev pub invariant-loop-kept : goal.invariant-loop-kept
invariant-loop-kept l =
    l.out ++ addresses_in (address_of l.hops.addresses) (map (field_kept l.store) (drop l.kept-index l.list))
    ≡ l.fn.out ++ addresses_in (address_of l.hops.addresses) (map (field_kept l.store) l.list)
