use Rattle.std.proofs.Common.{◌≡◌, ◌++◌, take}
use Rattle.std.specs.List.{flat_map}
use Rattle.sipd_ladder.specs.Table.{head_cell}
use Rattle.sipd_ladder.proofs.table.push_others.Given as goal

-- the texts so far are written
abbrev pub invariant-loop-text : goal.invariant-loop-text
invariant-loop-text l = l.out ≡ l.fn.out ++ flat_map (head_cell 30 15) (take l.text-index l.texts)
