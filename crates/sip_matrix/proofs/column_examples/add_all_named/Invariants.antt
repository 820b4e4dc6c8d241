use Rattle.std.proofs.Common.{◌≡◌, ◌++◌, take}
use Rattle.std.specs.List.{flat_map}
use Rattle.sip_matrix.specs.Example.{named_by}
use Rattle.sip_matrix.proofs.column_examples.add_all_named.Given as goal

-- the methods so far are there
abbrev pub invariant-loop-rule : goal.invariant-loop-rule
invariant-loop-rule l = l.operations ≡ l.fn.operations ++ flat_map (λ rule. named_by rule.operation) (take l.rule-index l.rules)
