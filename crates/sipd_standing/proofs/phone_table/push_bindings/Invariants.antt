use Rattle.std.proofs.Common.{◌≡◌, ◌++◌, length}
use Rattle.std.specs.List.{flat_map}
use Rattle.sipd_standing.specs.PhoneTable.{if_live}
use Rattle.sipd_standing.proofs.phone_table.push_bindings.Given as goal

-- what was made, in front of what the bindings that are left give, is the text of all
abbrev pub invariant-loop-binding : goal.invariant-loop-binding
invariant-loop-binding l = l.out ++ flat_map (if_live l.form l.at l.row) l.left ≡ l.fn.out ++ flat_map (if_live l.form l.at l.row) l.fn.bindings

abbrev pub decreases-loop-binding : goal.decreases-loop-binding
decreases-loop-binding l = length l.left
