use Rattle.std.proofs.Common.{◌≡◌, drop}
use Rattle.sipd_ladder.specs.Table.{name_behind, name_of}
use Rattle.sipd_ladder.proofs.table.name_of.Given as goal

-- the name so far, and those that are left, decide
abbrev pub invariant-loop-named : goal.invariant-loop-named
invariant-loop-named l = name_behind l.found l.addr (drop l.named-index l.names) ≡ name_of l.names l.addr
