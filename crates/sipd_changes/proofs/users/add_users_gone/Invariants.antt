use Rattle.std.proofs.Common.{◌≡◌, ◌++◌, take}
use Rattle.std.specs.List.{flat_map}
use Rattle.sip_policy.specs.User.{is_users_name}
use Rattle.sipd_changes.specs.declared.difference.Difference.TheVariants.{UserGoes}
use Rattle.sipd_changes.specs.Changes.{unless}
use Rattle.sipd_changes.proofs.users.add_users_gone.Given as goal

-- the users so far are told
abbrev pub invariant-loop-user : goal.invariant-loop-user
invariant-loop-user l = l.changes ≡ l.fn.changes ++ flat_map (λ user. unless (is_users_name l.new user.name) (UserGoes user.name)) (take l.user-index l.old)
