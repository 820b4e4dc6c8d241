use Rattle.std.proofs.Common.{◌≡◌, ◌++◌, find, take}
use Rattle.std.specs.List.{flat_map}
use Rattle.sipd_changes.specs.Changes.{is_hop, hop_now}
use Rattle.sipd_changes.proofs.places.add_hops_now.Given as goal

-- the hops so far are told
abbrev pub invariant-loop-hop : goal.invariant-loop-hop
invariant-loop-hop l = l.changes ≡ l.fn.changes ++ flat_map (λ hop. hop_now hop (find (is_hop hop.name) l.old)) (take l.hop-index l.new)
