use Rattle.std.proofs.Common.{◌≡◌, ◌++◌, take}
use Rattle.sipd_matrix_changes.proofs.both_configurations.add_rules.Given as goal

-- the rules so far are there
abbrev pub invariant-loop-rule : goal.invariant-loop-rule
invariant-loop-rule l = l.list ≡ l.fn.list ++ take l.rule-index l.rules
