use Rattle.std.proofs.Common.{◌≡◌, ◌++◌, take, codes, decimal}
use Rattle.std.specs.List.{flat_map}
use Rattle.sipd_changes.proofs.telling.put_ids.Given as goal

-- the numbers so far are written
abbrev pub invariant-loop-id : goal.invariant-loop-id
invariant-loop-id l = l.text ≡ l.fn.text ++ flat_map (λ id. codes " " ++ decimal id) (take l.id-index l.ids)
