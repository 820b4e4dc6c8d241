use Rattle.std.proofs.Common.{◌≡◌, ◌++◌, take}
use Rattle.std.specs.List.{flat_map}
use Rattle.sip_matrix.specs.Table.{columns_of_target}
use Rattle.sip_matrix.proofs.listing.add_targets.Given as goal

-- the columns of the rules so far are there
abbrev pub invariant-loop-rule : goal.invariant-loop-rule
invariant-loop-rule l = l.columns ≡ l.fn.columns ++ flat_map (λ rule. columns_of_target rule.target) (take l.rule-index l.rules)
