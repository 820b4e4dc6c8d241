use Rattle.std.proofs.Common.{◌≡◌, ◌++◌, take}
use Rattle.std.specs.List.{flat_map, list_any}
use Rattle.sipd_ask.specs.Show.{rule_text}
use Rattle.sipd_changes.specs.declared.difference.Revision.TheVariants.{Goes}
use Rattle.sipd_changes.specs.declared.difference.Difference.TheVariants.{Rule}
use Rattle.sipd_changes.specs.Changes.{unless, is_number}
use Rattle.sipd_changes.proofs.rules.add_rules_gone.Given as goal

-- the rules so far are told
abbrev pub invariant-loop-rule : goal.invariant-loop-rule
invariant-loop-rule l =
    l.changes ≡ l.fn.changes
    ++ flat_map (λ rule. unless (list_any (is_number rule.id) l.new) (Rule rule.id (Goes (rule_text l.hops rule)))) (take l.rule-index l.rules)
