use Rattle.std.proofs.Common.{◌≡◌, map, take}
use Rattle.sipd_ladder.specs.Table.{shown_name}
use Rattle.sipd_ladder.proofs.table.shown_names.Given as goal

-- the names so far stand there
abbrev pub invariant-loop-addr : goal.invariant-loop-addr
invariant-loop-addr l = l.texts ≡ map (shown_name l.names) (take l.addr-index l.places)
