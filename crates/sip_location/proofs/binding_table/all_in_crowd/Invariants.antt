use Rattle.std.proofs.Common.{take}
use Rattle.std.specs.List.{AllByRecursion}
use Rattle.sip_location.specs.Alive.{LivesAlike}
use Rattle.sip_location.proofs.binding_table.all_in_crowd.Given as goal

-- so it is of those so far
abbrev pub invariant-loop-filed : goal.invariant-loop-filed
invariant-loop-filed l = AllByRecursion (LivesAlike l.other.rows l.now) (take l.filed-index l.crowd)
