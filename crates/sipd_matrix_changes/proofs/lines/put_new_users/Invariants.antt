use Rattle.std.proofs.Common.{◌≡◌, ◌++◌, take}
use Rattle.std.specs.List.{flat_map}
use Rattle.sipd_matrix_changes.specs.Lines.{new_user_text}
use Rattle.sipd_matrix_changes.proofs.lines.put_new_users.Given as goal

-- the names so far are written
abbrev pub invariant-loop-user : goal.invariant-loop-user
invariant-loop-user l = l.text ≡ l.fn.text ++ flat_map (new_user_text l.old l.new l.row) (take l.user-index l.users)
