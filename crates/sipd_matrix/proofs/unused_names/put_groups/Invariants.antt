use Rattle.std.proofs.Common.{◌≡◌, ◌++◌, take}
use Rattle.std.specs.List.{flat_map}
use Rattle.sipd_matrix.specs.Unused.{group_line}
use Rattle.sipd_matrix.proofs.unused_names.put_groups.Given as goal

-- the lines so far are written
abbrev pub invariant-loop-group : goal.invariant-loop-group
invariant-loop-group l = l.text ≡ l.fn.text ++ flat_map (group_line l.rules l.name) (take l.group-index l.groups)
