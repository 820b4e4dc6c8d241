use Rattle.std.proofs.Common.{◌≡◌, ◌++◌, map, take}
use Rattle.sipd_ladder.specs.Hearing.{decided_rung}
use Rattle.sipd_ladder.proofs.hearing.push_decisions.Given as goal

-- the decisions so far stand there
abbrev pub invariant-loop-decision : goal.invariant-loop-decision
invariant-loop-decision l = l.rungs ≡ l.fn.rungs ++ map (decided_rung l.place l.out) (take l.decision-index l.records)
