use Rattle.std.proofs.Common.{◌≡◌, drop, take}
use Rattle.sip_digest.specs.Rows.{nonces_in}
use Rattle.sip_digest.proofs.nonces.are_alike.Given as goal

-- so many are the same
abbrev pub invariant-loop-at : goal.invariant-loop-at
invariant-loop-at l = take l.at (drop l.mine (nonces_in l.left.items)) ≡ take l.at (drop l.others (nonces_in l.right.items))
