use Rattle.std.proofs.Common.{◌≡◌, ◌++◌, take}
use Rattle.std.specs.List.{flat_map}
use Rattle.sipd_status.specs.Tries.{told_line}
use Rattle.sipd_status.proofs.tries.push_all.Given as goal

-- the lines so far are written
abbrev pub invariant-loop-source : goal.invariant-loop-source
invariant-loop-source l = l.out ≡ l.fn.out ++ flat_map told_line (take l.source-index l.sources)
