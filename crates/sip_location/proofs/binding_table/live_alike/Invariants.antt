use Rattle.std.proofs.Common.{◌≡◌, ◌++◌, take}
use Rattle.sip_location.specs.Alive.{lives}
use Rattle.sip_location.proofs.binding_table.live_alike.Given as goal

-- the live ones so far, in front of those of the rest, are those of the other list
abbrev pub invariant-loop-row : goal.invariant-loop-row
invariant-loop-row l = lives l.now (take l.row-index l.left) ++ lives l.now l.rest ≡ lives l.now l.right
