use Rattle.std.proofs.Common.{◌≡◌, ◌++◌, take}
use Rattle.std.specs.List.{flat_map, list_any}
use Rattle.sipd_changes.specs.declared.difference.Move.TheVariants.{Goes}
use Rattle.sipd_changes.specs.declared.difference.Difference.TheVariants.{Hop}
use Rattle.sipd_changes.specs.Changes.{unless, is_hop}
use Rattle.sipd_changes.proofs.places.add_hops_gone.Given as goal

-- the hops so far are told
abbrev pub invariant-loop-hop : goal.invariant-loop-hop
invariant-loop-hop l = l.changes ≡ l.fn.changes ++ flat_map (λ hop. unless (list_any (is_hop hop.name) l.new) (Hop hop.name (Goes hop.address))) (take l.hop-index l.old)
