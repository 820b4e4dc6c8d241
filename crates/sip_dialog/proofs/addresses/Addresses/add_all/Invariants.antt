use Rattle.std.proofs.Common.{◌≡◌, drop}
use Rattle.sip_dialog.specs.Addresses.{with_addresses}
use Rattle.sip_dialog.proofs.addresses.Addresses.add_all.Given as goal

abbrev pub invariant-loop-address : goal.invariant-loop-address
invariant-loop-address l = with_addresses l.self (drop l.address-index l.addresses) ≡ with_addresses l.initial.self l.addresses
