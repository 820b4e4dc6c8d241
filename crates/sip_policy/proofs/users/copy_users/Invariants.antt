use Rattle.std.proofs.Common.{◌≡◌, take}
use Rattle.sip_policy.proofs.users.copy_users.Given as goal

-- copies of the users so far
abbrev pub invariant-loop-user : goal.invariant-loop-user
invariant-loop-user l = l.copies ≡ take l.user-index l.users
