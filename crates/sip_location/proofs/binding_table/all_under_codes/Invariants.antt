use Rattle.std.specs.HashMap.{values}
use Rattle.std.specs.List.{AllByRecursion}
use Rattle.sip_location.specs.Alive.{LivesAlike}
use Rattle.sip_location.proofs.binding_table.all_under_codes.Given as goal

-- the rest decides
abbrev pub invariant-loop-filed : goal.invariant-loop-filed
invariant-loop-filed l =
    AllByRecursion (LivesAlike l.other.rows l.now) l.filed-iterator → AllByRecursion (LivesAlike l.other.rows l.now) (values l.by_code)
