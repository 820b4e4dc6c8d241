use Rattle.std.proofs.Common.{◌≡◌, ◌++◌, take}
use Rattle.std.specs.List.{flat_map}
use Rattle.sipd_matrix.specs.Text.{groups_text}
use Rattle.sipd_matrix.proofs.text.put_row_groups.Given as goal

-- the groups so far are written
abbrev pub invariant-loop-user : goal.invariant-loop-user
invariant-loop-user l = l.text ≡ l.fn.text ++ flat_map (groups_text l.config l.row) (take l.user-index l.users)
