use Rattle.std.proofs.Common.{◌≡◌, map, take}
use Rattle.sipd_service.proofs.hops.hops_of.Given as goal

abbrev pub invariant-loop-hop : goal.invariant-loop-hop
invariant-loop-hop l = l.hops.items ≡ map (λ hop. hop.address.ip) (take l.hop-index l.hop-items)
