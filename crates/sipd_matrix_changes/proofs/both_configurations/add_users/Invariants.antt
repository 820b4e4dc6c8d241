use Rattle.std.proofs.Common.{◌≡◌, ◌++◌, take}
use Rattle.sipd_matrix_changes.proofs.both_configurations.add_users.Given as goal

-- the users so far are there
abbrev pub invariant-loop-user : goal.invariant-loop-user
invariant-loop-user l = l.list ≡ l.fn.list ++ take l.user-index l.users
