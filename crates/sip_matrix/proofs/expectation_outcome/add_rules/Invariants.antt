use Rattle.std.proofs.Common.{◌≡◌, ◌++◌, take}
use Rattle.sip_matrix.proofs.expectation_outcome.add_rules.Given as goal

-- the rules so far are there
abbrev pub invariant-loop-rule : goal.invariant-loop-rule
invariant-loop-rule l = l.list ≡ l.fn.list ++ take l.rule-index l.rules
