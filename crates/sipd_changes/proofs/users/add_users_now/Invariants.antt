use Rattle.std.proofs.Common.{◌≡◌, ◌++◌, find, take}
use Rattle.std.specs.List.{flat_map}
use Rattle.sip_policy.specs.User.{is_named}
use Rattle.sipd_changes.specs.Changes.{user_now}
use Rattle.sipd_changes.proofs.users.add_users_now.Given as goal

-- the users so far are told
abbrev pub invariant-loop-user : goal.invariant-loop-user
invariant-loop-user l = l.changes ≡ l.fn.changes ++ flat_map (λ user. user_now user (find (is_named user.name) l.old)) (take l.user-index l.new)
