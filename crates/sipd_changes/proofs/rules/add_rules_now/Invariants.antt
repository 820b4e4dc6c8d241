use Rattle.std.proofs.Common.{◌≡◌, ◌++◌, drop, None}
use Rattle.sipd_changes.specs.Changes.{rules_now}
use Rattle.sipd_changes.proofs.rules.add_rules_now.Given as goal

-- what was told, in front of what the rest gives, is all
abbrev pub invariant-loop-rule : goal.invariant-loop-rule
invariant-loop-rule l = l.changes ++ rules_now l.old l.hops l.behind (drop l.rule-index l.rules) ≡ l.fn.changes ++ rules_now l.old l.hops None l.rules
