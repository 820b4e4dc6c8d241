use Rattle.std.proofs.Common.{◌≡◌, ◌++◌, take}
use Rattle.std.specs.List.{flat_map}
use Rattle.sipd_matrix.specs.Unused.{user_lines}
use Rattle.sipd_matrix.proofs.unused_names.put_all_groups.Given as goal

-- the lines so far are written
abbrev pub invariant-loop-user : goal.invariant-loop-user
invariant-loop-user l = l.text ≡ l.fn.text ++ flat_map (user_lines l.rules) (take l.user-index l.users)
