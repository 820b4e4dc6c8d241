use Rattle.std.proofs.Common.{take}
use Rattle.sip_policy.specs.Users.{place_of, AreNamed}
use Rattle.sip_policy.proofs.users.places_of_names.Given as goal

-- the names so far lead to the places of the users so far
abbrev pub invariant-loop-at : goal.invariant-loop-at
invariant-loop-at l = AreNamed (place_of l.places) (take l.at l.users)
