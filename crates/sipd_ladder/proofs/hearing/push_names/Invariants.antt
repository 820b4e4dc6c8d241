use Rattle.std.proofs.Common.{◌≡◌, ◌++◌, take}
use Rattle.std.specs.List.{flat_map}
use Rattle.sipd_ladder.specs.Hearing.{name_by}
use Rattle.sipd_ladder.proofs.hearing.push_names.Given as goal

-- the users so far stand there
abbrev pub invariant-loop-decision : goal.invariant-loop-decision
invariant-loop-decision l = l.names ≡ l.fn.names ++ flat_map (name_by l.from) (take l.decision-index l.records)
