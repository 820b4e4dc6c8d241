use Rattle.std.proofs.Common.{◌≡◌, take}
use Rattle.sip_verdict.proofs.copies.copy_addresses.Given as goal

abbrev pub invariant-loop-row : goal.invariant-loop-row
invariant-loop-row l = l.copies ≡ take l.row-index l.addresses
