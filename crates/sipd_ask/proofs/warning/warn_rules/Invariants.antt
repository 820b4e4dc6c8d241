use Rattle.std.proofs.Common.{◌≡◌, ◌++◌, take}
use Rattle.std.specs.List.{flat_map}
use Rattle.sipd_ask.specs.Warnings.{rule_warnings}
use Rattle.sipd_ask.proofs.warning.warn_rules.Given as goal

-- the lines so far are written
abbrev pub invariant-loop-rule : goal.invariant-loop-rule
invariant-loop-rule l = l.text ≡ l.fn.text ++ flat_map (rule_warnings l.domains) (take l.rule-index l.rules)
