use Rattle.std.proofs.Common.{◌≡◌, ◌++◌, take}
use Rattle.std.specs.List.{flat_map}
use Rattle.sipd_ask.specs.Show.{user_line}
use Rattle.sipd_ask.proofs.showing.put_users.Given as goal

-- the lines so far are written
abbrev pub invariant-loop-user : goal.invariant-loop-user
invariant-loop-user l = l.text ≡ l.fn.text ++ flat_map user_line (take l.user-index l.users)
