use Rattle.std.proofs.Common.{◌≡◌, drop, find}
use Rattle.std.specs.Option.{option_copied}
use Rattle.sip_policy.specs.Rule.{applies}
use Rattle.sip_policy.proofs.list_rules.deciding_rule.Given as goal

-- what is found in the rest is what is found in all
abbrev pub invariant-loop-rule : goal.invariant-loop-rule
invariant-loop-rule l =
    find (applies l.users l.domains (option_copied l.proven) l.operation l.aor l.minute) (drop l.rule-index l.rules)
    ≡ find (applies l.users l.domains (option_copied l.proven) l.operation l.aor l.minute) l.rules
