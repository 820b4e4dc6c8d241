use Rattle.std.specs.Prelude.{nat_eq}
use Rattle.std.specs.HashMap.{get}
use Rattle.sip_hops.proofs.Chains.{AreChainedFrom}
use Rattle.sip_hops.proofs.address_table.chain.Given as goal

-- the rows from this place on are chained
abbrev pub invariant-loop-at : goal.invariant-loop-at
invariant-loop-at l = AreChainedFrom l.rows (λ code. get nat_eq l.firsts code) l.nexts l.at

abbrev pub decreases-loop-at : goal.decreases-loop-at
decreases-loop-at l = l.at
