use Rattle.std.proofs.Common.{◌≡◌, ◌++◌, take, codes}
use Rattle.std.specs.List.{flat_map}
use Rattle.sipd_ask.proofs.showing.put_groups.Given as goal

-- the lines so far are written
abbrev pub invariant-loop-group : goal.invariant-loop-group
invariant-loop-group l = l.text ≡ l.fn.text ++ flat_map (λ group. codes ", group " ++ group) (take l.group-index l.groups)
