use Rattle.std.proofs.Common.{◌≡◌, ◌++◌, take}
use Rattle.std.specs.List.{flat_map}
use Rattle.sipd_matrix.specs.Unused.{hop_line}
use Rattle.sipd_matrix.proofs.unused_names.put_hops.Given as goal

-- the lines so far are written
abbrev pub invariant-loop-hop : goal.invariant-loop-hop
invariant-loop-hop l = l.text ≡ l.fn.text ++ flat_map (hop_line l.hops l.rules) (take l.hop-index l.some)
