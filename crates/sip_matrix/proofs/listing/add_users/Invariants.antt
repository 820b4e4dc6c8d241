use Rattle.std.proofs.Common.{◌≡◌, ◌++◌, map, take}
use Rattle.sip_matrix.specs.Table.{named}
use Rattle.sip_matrix.proofs.listing.add_users.Given as goal

-- the addresses of the users so far are there
abbrev pub invariant-loop-user : goal.invariant-loop-user
invariant-loop-user l = l.columns ≡ l.fn.columns ++ map (λ user. named user.name l.domain) (take l.user-index l.users)
