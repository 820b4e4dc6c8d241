use Rattle.std.proofs.Common.{◌≡◌, take}
use Rattle.sip_policy.proofs.list_rules.copy_rules.Given as goal

-- copies of the rules so far
abbrev pub invariant-loop-rule : goal.invariant-loop-rule
invariant-loop-rule l = l.copies ≡ take l.rule-index l.rules
