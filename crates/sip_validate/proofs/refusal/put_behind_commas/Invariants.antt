use Rattle.std.proofs.Common.{◌≡◌, ◌++◌, map, take}
use Rattle.std.specs.Prelude.{codes}
use Rattle.std.specs.List.{flat_map}
use Rattle.sip_validate.proofs.refusal.put_behind_commas.Given as goal

-- the items so far are put
abbrev pub invariant-loop-item : goal.invariant-loop-item
invariant-loop-item l = l.out ≡ l.fn.out ++ flat_map (λ item. codes ", " ++ item) (map (λ item. item.now) (take l.item-index l.items))
