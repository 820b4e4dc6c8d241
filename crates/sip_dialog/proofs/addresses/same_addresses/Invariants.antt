use Rattle.std.proofs.Common.{◌≡◌, take}
use Rattle.sip_dialog.proofs.addresses.same_addresses.Given as goal

-- the addresses so far are the same
abbrev pub invariant-loop-at : goal.invariant-loop-at
invariant-loop-at l = take l.at l.left ≡ take l.at l.right
