use Rattle.std.proofs.Common.{◌≡◌, ◌++◌, length}
use Rattle.std.specs.List.{flat_map}
use Rattle.sipd_sources.specs.Table.{entry_in}
use Rattle.sipd_sources.proofs.table.push_ranked.Given as goal

-- what was made, in front of what the addresses that are left give, is the text of all
abbrev pub invariant-loop-source : goal.invariant-loop-source
invariant-loop-source l = l.out ++ flat_map (entry_in l.form) l.left.entries ≡ l.fn.out ++ flat_map (entry_in l.form) l.fn.ranked.entries

abbrev pub decreases-loop-source : goal.decreases-loop-source
decreases-loop-source l = length l.left.entries
