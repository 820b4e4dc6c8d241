use Rattle.std.proofs.Common.{◌≡◌, ◌++◌, take}
use Rattle.std.specs.List.{flat_map}
use Rattle.sipd_standing.specs.Standing.{if_standing}
use Rattle.sipd_standing.proofs.table.push_all.Given as goal

-- the calls so far are written
abbrev pub invariant-loop-call : goal.invariant-loop-call
invariant-loop-call l = l.out ≡ l.fn.out ++ flat_map (if_standing l.form l.at) (take l.call-index l.calls)
