use Rattle.std.proofs.Common.{◌≡◌, take}
use Rattle.sip_verdict.proofs.copies.copy_hops.Given as goal

abbrev pub invariant-loop-hop : goal.invariant-loop-hop
invariant-loop-hop l = l.copies ≡ take l.hop-index l.hops
