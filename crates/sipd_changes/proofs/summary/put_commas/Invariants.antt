use Rattle.std.proofs.Common.{◌≡◌, ◌++◌, take, codes, decimal}
use Rattle.std.specs.List.{flat_map}
use Rattle.sipd_changes.proofs.summary.put_commas.Given as goal

-- the numbers so far are written
abbrev pub invariant-loop-id : goal.invariant-loop-id
invariant-loop-id l = l.text ≡ l.fn.text ++ flat_map (λ other. codes ", " ++ decimal other) (take l.id-index l.ids)
